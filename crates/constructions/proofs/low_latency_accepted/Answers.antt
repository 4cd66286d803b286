use Rattle.constructions.proofs.LowAccepted.{accepted_low_latency}
use Rattle.constructions.proofs.low_latency_accepted.Goals as goal

pub returns : goal.returns
returns c = accepted_low_latency
