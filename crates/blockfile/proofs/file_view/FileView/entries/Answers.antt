use Rattle.std.proofs.Common.{◌≡◌, ◌-◌, ◌^◌, take, drop, ap, ◌∙◌, arith}
use Rattle.blockfile.specs.Viewing.{block_in}
use Rattle.blockfile.proofs.Accepted.{accepted_layout}
use Rattle.blockfile.proofs.file_view.FileView.entries.Goals as goal

pub slice_bounds-result-end : goal.slice_bounds-result-end
slice_bounds-result-end c = let v = c.args.self.now in let l = accepted_layout v.bytes.now v.accepted in omega arith

pub returns : goal.returns
returns c =
    let v = c.args.self.now in
    let l = accepted_layout v.bytes.now v.accepted in
    let size : c.body.result - 8 ≡ 2 ^ (block_in v.bytes.now).table.n = omega arith in
    ap (λ k. take k (drop 8 v.bytes.now)) size ∙ l.entries
