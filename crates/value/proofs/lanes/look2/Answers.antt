use Rattle.std.proofs.Common.{[], ◌∷◌, arith}
use Rattle.netlist.specs.Circuit.{number}
use Rattle.value.specs.Values.{lane}
use Rattle.value.proofs.LaneLaws.{pick_half}
use Rattle.value.proofs.lanes.look2.Goals as goal

pub returns : goal.returns
returns c j h = pick_half c.args.table (number (lane j c.args.a ∷ [])) 2 _ (lane j c.args.b) _ _ _ (c.pick.ensures j) (c.look1.ensures j h) (c.look1-2.ensures j h) (omega arith)
