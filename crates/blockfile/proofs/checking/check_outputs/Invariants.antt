use Rattle.std.proofs.Common.{◌≡◌, ◌+◌, ◌*◌, drop}
use Rattle.blockfile.specs.Reading.{in_bounds}
use Rattle.blockfile.proofs.Wires.{wire_bounds}
use Rattle.blockfile.proofs.checking.check_outputs.Given as goal

abbrev pub invariant-loop-k : goal.invariant-loop-k
invariant-loop-k l = in_bounds (wire_bounds l.wires l.outputs.place l.numbers) ≡ in_bounds (wire_bounds l.wires (l.outputs.place + 2 * l.k) (drop l.k l.numbers))
