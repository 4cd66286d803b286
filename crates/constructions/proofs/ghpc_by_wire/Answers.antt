use Rattle.constructions.proofs.GhpcByNumber.{ghpc_by_wire}
use Rattle.constructions.proofs.ghpc_by_wire.Goals as goal

pub returns : goal.returns
returns c = ghpc_by_wire
