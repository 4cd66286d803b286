use Rattle.constructions.proofs.GhpcAccepted.{accepted_ghpc}
use Rattle.constructions.proofs.ghpc_accepted.Goals as goal

pub returns : goal.returns
returns c = accepted_ghpc
