use Rattle.std.proofs.Common.{◌+◌, ◌*◌, Some, ap, ◌∙◌, arith}
use Rattle.blockfile.specs.Reading.{pair_at}
use Rattle.blockfile.specs.Viewing.{block_in}
use Rattle.blockfile.proofs.Accepted.{accepted_layout, pair_there}
use Rattle.blockfile.proofs.file_view.viewing.FileViewBlock.output.Goals as goal

pub pair-requires : goal.pair-requires
pair-requires c = let v = c.args.self.now in let l = accepted_layout v.bytes.now v.accepted in omega arith

pub pair-requires-2 : goal.pair-requires-2
pair-requires-2 c = let v = c.args.self.now in let l = accepted_layout v.bytes.now v.accepted in omega arith

pub returns : goal.returns
returns c =
    let v = c.args.self.now in
    let l = accepted_layout v.bytes.now v.accepted in
    let place = c.body.result + 14 * c.cell_count.result + 3 + 4 * c.args.c in
    ap (λ x. Some (x, c.pair-2.result)) c.pair.ensures ∙ ap (λ y. Some (pair_at v.bytes.now place, y)) c.pair-2.ensures
    ∙ pair_there v.bytes.now (block_in v.bytes.now) c.args.c place l (omega arith) v.whole.complete (omega arith)
