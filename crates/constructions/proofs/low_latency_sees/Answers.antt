use Rattle.constructions.proofs.LowProbes.{probes_see}
use Rattle.constructions.proofs.low_latency_sees.Goals as goal

pub returns : goal.returns
returns c = probes_see
