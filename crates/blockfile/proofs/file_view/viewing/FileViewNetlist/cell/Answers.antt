use Rattle.std.proofs.Common.{◌≡◌, ◌+◌, ◌-◌, ◌*◌, take, drop, Some, ap, ◌∙◌, arith}
use Rattle.blockfile.specs.Reading.{cell_from}
use Rattle.blockfile.specs.Viewing.{block_in}
use Rattle.blockfile.proofs.Accepted.{accepted_layout, cell_there}
use Rattle.blockfile.proofs.file_view.viewing.FileViewNetlist.cell.Goals as goal

pub slice_bounds-read_cell-end : goal.slice_bounds-read_cell-end
slice_bounds-read_cell-end c = let v = c.args.self.now in let l = accepted_layout v.bytes.now v.accepted in omega arith

pub returns : goal.returns
returns c =
    let v = c.args.self.now in
    let l = accepted_layout v.bytes.now v.accepted in
    let place = c.body.result + 14 * c.in_ok-k.k + 3 in
    let size : place + 11 - place ≡ 11 = omega arith in
    ap Some (c.read_cell.ensures ∙ ap (λ n. cell_from (take n (drop place v.bytes.now))) size)
    ∙ cell_there v.bytes.now (block_in v.bytes.now) c.args.wire place l (omega arith) (omega arith) (omega arith)
