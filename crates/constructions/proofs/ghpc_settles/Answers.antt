use Rattle.constructions.proofs.GhpcValues.{settles}
use Rattle.constructions.proofs.ghpc_settles.Goals as goal

pub returns : goal.returns
returns c = settles
