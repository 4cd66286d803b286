use Rattle.std.proofs.Common.{◌-◌, ◌*◌, ◌/◌, ◌^◌, length, ap, ◌∙◌, arith}
use Rattle.blockfile.specs.Viewing.{block_in}
use Rattle.blockfile.proofs.Accepted.{accepted_layout, counted}
use Rattle.blockfile.proofs.file_view.FileView.cell_count.Goals as goal

pub overflow_sub-result : goal.overflow_sub-result
overflow_sub-result c = let v = c.args.self.now in let l = accepted_layout v.bytes.now v.accepted in omega arith

pub overflow_sub-result-2 : goal.overflow_sub-result-2
overflow_sub-result-2 c = let v = c.args.self.now in let l = accepted_layout v.bytes.now v.accepted in omega arith

pub overflow_sub-result-3 : goal.overflow_sub-result-3
overflow_sub-result-3 c = let v = c.args.self.now in let l = accepted_layout v.bytes.now v.accepted in omega arith

pub returns : goal.returns
returns c =
    let v = c.args.self.now in
    let b = block_in v.bytes.now in
    let l = accepted_layout v.bytes.now v.accepted in
    ap (λ m. (length v.bytes.now - c.body.result - 3 - 4 * m) / 14) (c.from.ensures ∙ l.outputs)
    ∙ counted (length v.bytes.now) c.body.result b.table.m (length b.cells) (2 ^ b.table.n) c.body.ensures l.long
