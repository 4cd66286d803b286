use Rattle.std.proofs.Common.{◌≡◌, take}
use Rattle.std.specs.List.{flat_map}
use Rattle.blockfile.specs.Writing.{put_at}
use Rattle.blockfile.proofs.Items.{cell_item}
use Rattle.blockfile.proofs.writing.put_cells.Given as goal

abbrev pub invariant-loop-k : goal.invariant-loop-k
invariant-loop-k g l = l.out ≡ put_at 0 (flat_map cell_item (take l.k (g.B.Block.block l.source).cells)) l.initial.out
