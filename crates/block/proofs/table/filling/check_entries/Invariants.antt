use Rattle.std.proofs.Common.{◌≡◌, drop}
use Rattle.block.specs.Tables.{entries_answer}
use Rattle.block.proofs.table.filling.check_entries.Given as goal

abbrev pub invariant-loop-i : goal.invariant-loop-i
invariant-loop-i l = entries_answer l.limit 0 l.entries ≡ entries_answer l.limit l.i (drop l.i l.entries)
