use Rattle.constructions.proofs.LowValues.{recombines}
use Rattle.constructions.proofs.low_latency_recombines.Goals as goal

pub returns : goal.returns
returns c = recombines
