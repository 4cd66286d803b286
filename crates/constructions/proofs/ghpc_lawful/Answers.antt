use Rattle.constructions.proofs.GhpcLawful.{lawful_ghpc}
use Rattle.constructions.proofs.ghpc_lawful.Goals as goal

pub returns : goal.returns
returns c = lawful_ghpc
