use Rattle.std.proofs.Common.{◌≡◌, ◌+◌, ◌*◌, get_or, refl, ap, ◌∙◌, arith}
use Rattle.netlist.specs.Cells.{no_cell}
use Rattle.blockfile.specs.Writing.{put_at}
use Rattle.blockfile.specs.Format.{cell_fields}
use Rattle.blockfile.proofs.Blocks.{length_cells}
use Rattle.blockfile.proofs.Placing.{put_whole}
use Rattle.blockfile.proofs.Items.{cell_item, cells_joined, put_item, put_all, cell_numbered}
use Rattle.blockfile.proofs.writing.put_cells.Goals as goal

pub loop-k-preserved : goal.loop-k-preserved
loop-k-preserved g c =
    let k = c.loop-k.k in
    let b = g.B.Block.block c.args.source.now in
    let part = g.met.B.Block.part c.args.source.now in
    let shares : 2 * c.inputs-first.result ≡ 2 * b.table.n = ap (λ n. 2 * n) (c.inputs-first.ensures ∙ ap (λ net. net.inputs) part) in
    let there = cell_numbered (g.B.Netlist.net c.args.source.now) b (2 * c.inputs-first.result) k part shares (omega arith) in
    let read : c.unwrap-x.result ≡ get_or b.cells k no_cell = cc in
    let place : 14 * k ≡ 0 + 14 * k = omega arith in
    put_item cell_item 14 (λ _. refl {a = 14}) 0 k b.cells no_cell c.cell_field.result c.args.out.now c.loop-k.out _ (omega arith) (omega arith) c.loop-k.invariant (c.cell_field.ensures ∙ ap cell_item read)
    (c.put.ensures ∙ ap (λ i. put_at i c.cell_field.result c.loop-k.out) place)

pub returns : goal.returns
returns g c =
    let xs = (g.B.Block.block c.args.source.now).cells in
    put_all cell_item 0 c.loop-k.k xs c.args.out.now c.loop-k.out (omega arith) c.loop-k.invariant ∙ ap (λ ys. put_at 0 ys c.args.out.now) (cells_joined xs)
    ∙ put_whole (cell_fields xs) c.args.out.now (omega (arith, length_cells xs))
