use Rattle.std.proofs.Common.{◌≡◌, take}
use Rattle.blockfile.proofs.writing.put_entries.Given as goal

abbrev pub invariant-loop-argument : goal.invariant-loop-argument
invariant-loop-argument g l = take l.argument l.out ≡ take l.argument (g.B.Block.block l.source).table.entries
