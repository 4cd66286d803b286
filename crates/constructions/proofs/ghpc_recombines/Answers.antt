use Rattle.constructions.proofs.GhpcValues.{recombines}
use Rattle.constructions.proofs.ghpc_recombines.Goals as goal

pub returns : goal.returns
returns c = recombines
