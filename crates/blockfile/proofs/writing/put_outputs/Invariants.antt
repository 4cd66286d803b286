use Rattle.std.proofs.Common.{◌≡◌, take}
use Rattle.std.specs.List.{flat_map}
use Rattle.blockfile.specs.Writing.{put_at}
use Rattle.blockfile.proofs.Items.{pair_item}
use Rattle.blockfile.proofs.writing.put_outputs.Given as goal

abbrev pub invariant-loop-c : goal.invariant-loop-c
invariant-loop-c g l = l.out ≡ put_at 3 (flat_map pair_item (take l.c (g.B.Block.block l.source).outputs)) l.initial.out
