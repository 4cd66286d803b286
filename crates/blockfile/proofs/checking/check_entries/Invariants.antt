use Rattle.std.proofs.Common.{◌≡◌, ◌+◌, drop}
use Rattle.blockfile.specs.Reading.{in_bounds, entry_bounds}
use Rattle.blockfile.proofs.checking.check_entries.Given as goal

abbrev pub invariant-loop-k : goal.invariant-loop-k
invariant-loop-k l = in_bounds (entry_bounds l.m l.entries.place l.entries.bytes.now) ≡ in_bounds (entry_bounds l.m (l.entries.place + l.k) (drop l.k l.entries.bytes.now))
