use Rattle.std.proofs.Common.{◌≡◌, ◌*◌, drop, take, ap, ◌∙◌, arith, take_all, length-drop}
use Rattle.std.proofs.lemmas.List.{drop_min}
use Rattle.netlist.specs.declared.cell.Cell.{Cell}
use Rattle.netlist.specs.Circuit.{carried, more_fresh}
use Rattle.netlist.specs.Cells.{driver}
use Rattle.traverse.specs.Carrying.{given_values}
use Rattle.traverse.proofs.Walks.{cells_start, cells_again, carried_later, left_later, more_by_one}
use Rattle.traverse.proofs.walk.carry_cells.Goals as goal

pub loop-wire-init : goal.loop-wire-init
loop-wire-init g c =
    let n = 2 * c.inputs-first.result in
    let xs = c.args.given.now in
    let left = take_all _ (drop c.min.result xs) (omega (arith, length-drop c.min.result xs)) ∙ ap (λ k. drop k xs) c.min.ensures ∙ drop_min n xs in
    (n, left, cells_start g.V.WireValue.ops (g.N.Netlist.net c.args.netlist.now) c.args.given.now c.args.out.now _ (omega arith) c.requires.shares)

pub loop-wire-preserved : goal.loop-wire-preserved
loop-wire-preserved g c =
    let o = g.V.WireValue.ops in
    let net = g.N.Netlist.net c.args.netlist.now in
    let given = c.args.given.now in
    let k = c.loop-wire.invariant.0 in
    let d = driver c.cell_of.result in
    let below = take c.loop-wire.wire c.loop-wire.out in
    let value : c.drive.result ≡ carried (given_values o given) d k below = c.drive.ensures.value ∙ ap (λ xs. carried (given_values o xs) d 0 below) c.loop-wire.invariant.1 ∙ carried_later o given d k below in
    let left : c.drive.new.fresh.now ≡ drop (more_fresh d k) given = c.drive.ensures.fresh ∙ ap (drop (more_fresh d 0)) c.loop-wire.invariant.1 ∙ left_later given d k in (
      more_fresh d k,
      left,
      cells_again o net given c.args.out.now c.loop-wire.out c.loop-wire.wire k _ _ (omega arith) (omega arith) (omega arith)
          (value ∙ ap (λ (x : Cell). carried (given_values o given) (driver x) k below) c.cell_of.ensures) (ap (λ (x : Cell). more_fresh (driver x) k) c.cell_of.ensures) (more_by_one d k) c.loop-wire.invariant.2,
    )
