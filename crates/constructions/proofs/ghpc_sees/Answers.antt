use Rattle.constructions.proofs.GhpcProbes.{probes_see}
use Rattle.constructions.proofs.ghpc_sees.Goals as goal

pub returns : goal.returns
returns c = probes_see
