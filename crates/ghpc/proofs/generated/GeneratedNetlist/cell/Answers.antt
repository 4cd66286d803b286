use Rattle.std.proofs.Common.{Some, ap, ◌∙◌, arith}
use Rattle.block.specs.Tables.{tabled, tabled_lawful}
use Rattle.ghpc.proofs.Layers.{few_wires, on_share, on_mask, on_selector}
use Rattle.ghpc.proofs.generated.GeneratedNetlist.cell.Goals as goal

pub selector_cell-requires-clause-low : goal.selector_cell-requires-clause-low
selector_cell-requires-clause-low g c =
    let x = c.args.self.now.table in
    let h = few_wires (g.met.C.Construction.layered (tabled x) (tabled_lawful x)) (g.met.C.Construction.lawful (tabled x) (tabled_lawful x)) in
    omega (arith, c.layout-at.ensures.outputs, c.if-wire-at-3.true)

pub returns-then-wire-at : goal.returns-then-wire-at
returns-then-wire-at g c =
    let x = c.args.self.now.table in
    on_share (g.met.C.Construction.layered (tabled x) (tabled_lawful x)) (g.met.C.Construction.lawful (tabled x) (tabled_lawful x)) c.args.wire (omega arith)

pub returns-then-wire-at-2 : goal.returns-then-wire-at-2
returns-then-wire-at-2 g c =
    let x = c.args.self.now.table in
    ap Some c.gate.ensures
    ∙ on_mask (g.met.C.Construction.layered (tabled x) (tabled_lawful x)) (g.met.C.Construction.lawful (tabled x) (tabled_lawful x)) c.args.wire (omega arith) (omega arith)

pub returns-then-wire-at-3 : goal.returns-then-wire-at-3
returns-then-wire-at-3 g c =
    let x = c.args.self.now.table in
    c.selector_cell.ensures
    ∙ on_selector (g.met.C.Construction.layered (tabled x) (tabled_lawful x)) (g.met.C.Construction.lawful (tabled x) (tabled_lawful x)) c.args.wire _
    c.layout-at.ensures.selectors (omega arith) (omega arith)
