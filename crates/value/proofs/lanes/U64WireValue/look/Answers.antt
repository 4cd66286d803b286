use Rattle.std.proofs.Common.{◌≡◌, ◌≤◌, [], ◌∷◌, arith, take_all}
use Rattle.value.proofs.LaneLaws.{by_lanes}
use Rattle.value.proofs.lanes.U64WireValue.look.Goals as goal

pub returns-in-0 : goal.returns-in-0
returns-in-0 c = let w : c.args.width ≡ 0 = omega arith in rw w (by_lanes 64 c.leaf.result _ c.leaf.type_inv c.leaf.ensures)

pub returns-in-1 : goal.returns-in-1
returns-in-1 c = let w : c.args.width ≡ 1 = omega arith in rw w (by_lanes 64 c.look1.result _ c.look1.type_inv c.look1.ensures)

pub returns-in-2 : goal.returns-in-2
returns-in-2 c = let w : c.args.width ≡ 2 = omega arith in rw w (by_lanes 64 c.look2.result _ c.look2.type_inv c.look2.ensures)

pub returns-in-3 : goal.returns-in-3
returns-in-3 c = let w : c.args.width ≡ 3 = omega arith in rw w (by_lanes 64 c.look3.result _ c.look3.type_inv c.look3.ensures)

pub returns-in_default : goal.returns-in_default
returns-in_default c =
    let w : 4 ≤ c.args.width = omega arith in
    rw (take_all c.args.width (c.args.a ∷ c.args.b ∷ c.args.c ∷ c.args.d ∷ []) w) (by_lanes 64 c.look4.result _ c.look4.type_inv c.look4.ensures)
