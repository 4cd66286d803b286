use Rattle.constructions.proofs.LowValues.{settles}
use Rattle.constructions.proofs.low_latency_settles.Goals as goal

pub returns : goal.returns
returns c = settles
