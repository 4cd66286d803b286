use Rattle.constructions.proofs.LowLawful.{lawful_low_latency}
use Rattle.constructions.proofs.low_latency_lawful.Goals as goal

pub returns : goal.returns
returns c = lawful_low_latency
