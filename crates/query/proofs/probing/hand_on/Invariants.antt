use Rattle.std.proofs.Common.{◌≡◌, take}
use Rattle.query.specs.Marks.{marked}
use Rattle.query.proofs.probing.hand_on.Given as goal

abbrev pub invariant-loop-operand : goal.invariant-loop-operand
invariant-loop-operand l = l.marks ≡ marked (take l.operand-index l.operand-items) l.initial.marks
