use Rattle.std.proofs.Common.{◌≡◌, take, drop}
use Rattle.traverse.specs.Carrying.{filled}
use Rattle.traverse.proofs.walk.carry_shares.Given as goal

abbrev pub invariant-loop-i : goal.invariant-loop-i
invariant-loop-i g l = (take l.i l.v-items ≡ filled l.i g.V.WireValue.ops.none l.given) × (drop l.i l.v-items ≡ drop l.i l.initial.v-items)
