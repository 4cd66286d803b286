use Rattle.std.proofs.Common.{◌/◌, ◌<◌, ◌∙◌, arith}
use Rattle.block.specs.Tables.{tabled, tabled_lawful}
use Rattle.ghpc.proofs.Layers.{some, within, on_output, past}
use Rattle.ghpc.proofs.generated.Generated.output_cell.Goals as goal

pub nonzero_div-c : goal.nonzero_div-c
nonzero_div-c g c =
    let x = c.args.self.now.table in
    some (g.met.C.Construction.layered (tabled x) (tabled_lawful x)) (g.met.C.Construction.lawful (tabled x) (tabled_lawful x)) c.args.k c.breadth-breadth.result c.breadth-breadth.ensures

pub nonzero_rem-k : goal.nonzero_rem-k
nonzero_rem-k g c =
    let x = c.args.self.now.table in
    some (g.met.C.Construction.layered (tabled x) (tabled_lawful x)) (g.met.C.Construction.lawful (tabled x) (tabled_lawful x)) c.args.k c.breadth-breadth.result c.breadth-breadth.ensures

pub output_cell-requires : goal.output_cell-requires
output_cell-requires g c =
    let x = c.args.self.now.table in
    let h : c.args.k / c.breadth-breadth.result < (tabled x).m = omega arith in
    (h, within (g.met.C.Construction.layered (tabled x) (tabled_lawful x)) (g.met.C.Construction.lawful (tabled x) (tabled_lawful x)) c.args.k c.breadth-breadth.result c.breadth-breadth.ensures h)

pub returns-then-c-outputs : goal.returns-then-c-outputs
returns-then-c-outputs g c =
    let x = c.args.self.now.table in
    c.output_cell.ensures
    ∙ on_output (g.met.C.Construction.layered (tabled x) (tabled_lawful x)) (g.met.C.Construction.lawful (tabled x) (tabled_lawful x)) c.args.k c.breadth-breadth.result c.breadth-breadth.ensures (omega arith)

pub returns-else-c-outputs : goal.returns-else-c-outputs
returns-else-c-outputs g c =
    let x = c.args.self.now.table in
    past (g.met.C.Construction.layered (tabled x) (tabled_lawful x)) (g.met.C.Construction.lawful (tabled x) (tabled_lawful x)) c.args.k c.breadth-breadth.result c.breadth-breadth.ensures (omega arith)
