use Rattle.std.proofs.Common.{◌≡◌, ◌*◌, sym, ap, ◌∙◌, arith}
use Rattle.std.proofs.lemmas.Result.{err_from_is_err_and}
use Rattle.blockfile.proofs.Checks.{cell_cut, cell_out, cell_read, outputs_cut, outputs_out, outputs_end, ended_here, ended_not}
use Rattle.blockfile.proofs.checking.check_body.Goals as goal

pub returns-in_err-cell : goal.returns-in_err-cell
returns-in_err-cell c =
    let p = err_from_is_err_and c.from_residual.result c.from_residual.ensures.1 in
    rw (p.1, p.2) (cell_cut _ _ _ _ _ _ _ _ c.loop-rest.invariant _ (sym c.loop-rest-test.ensures) c.in_err-cell.ensures)

pub returns-in_err-check_cell : goal.returns-in_err-check_cell
returns-in_err-check_cell c =
    let p = err_from_is_err_and c.from_residual-in_err-check_cell.result c.from_residual-in_err-check_cell.ensures.1 in
    let f = c.in_ok-cell.ensures in
    rw (p.1, p.2) (cell_out _ _ _ _ _ _ _ _ c.loop-rest.invariant _ _ _ _ (sym c.loop-rest-test.ensures) f.opens f.place c.in_err-check_cell.ensures)

pub loop-rest-preserved : goal.loop-rest-preserved
loop-rest-preserved c =
    let f = c.in_ok-cell.ensures in
    cell_read _ _ _ _ _ _ _ _ c.loop-rest.invariant _ _ _ _ _ (sym c.loop-rest-test.ensures) f.opens f.place c.in_ok-check_cell.ensures f.behind f.ends

pub returns-in_err-outputs : goal.returns-in_err-outputs
returns-in_err-outputs c =
    let p = err_from_is_err_and c.from_residual-in_err-outputs.result c.from_residual-in_err-outputs.ensures.1 in
    let size : 4 * c.from.result ≡ 4 * c.args.m = ap (λ n. 4 * n) c.from.ensures in
    rw (p.1, p.2) (outputs_cut _ _ _ _ _ _ _ _ c.loop-rest.invariant _ _ (sym c.loop-rest-test.ensures) size c.in_err-outputs.ensures)

pub returns-in_err-check_outputs : goal.returns-in_err-check_outputs
returns-in_err-check_outputs c =
    let p = err_from_is_err_and c.from_residual-in_err-check_outputs.result c.from_residual-in_err-check_outputs.ensures.1 in
    let f = c.in_ok-outputs.ensures in
    let size : 4 * c.from.result ≡ 4 * c.args.m = ap (λ n. 4 * n) c.from.ensures in
    rw (p.1, p.2) (outputs_out _ _ _ _ _ _ _ _ c.loop-rest.invariant _ _ _ _ _ _ (sym c.loop-rest-test.ensures) size f.opens f.place (omega arith) c.in_err-check_outputs.ensures)

pub returns-then-is_empty : goal.returns-then-is_empty
returns-then-is_empty c =
    let f = c.in_ok-outputs.ensures in
    let size : 4 * c.from.result ≡ 4 * c.args.m = ap (λ n. 4 * n) c.from.ensures in
    outputs_end _ _ _ _ _ _ _ _ c.loop-rest.invariant _ _ _ _ _ _ _ _ (sym c.loop-rest-test.ensures) size f.opens f.place (omega arith) c.in_ok-check_outputs.ensures f.behind (ended_here _ _ (sym c.if-is_empty.true ∙ c.is_empty.ensures))

pub returns-else-is_empty : goal.returns-else-is_empty
returns-else-is_empty c =
    let f = c.in_ok-outputs.ensures in
    let size : 4 * c.from.result ≡ 4 * c.args.m = ap (λ n. 4 * n) c.from.ensures in
    outputs_end _ _ _ _ _ _ _ _ c.loop-rest.invariant _ _ _ _ _ _ _ _ (sym c.loop-rest-test.ensures) size f.opens f.place (omega arith) c.in_ok-check_outputs.ensures f.behind (ended_not _ _ (sym c.if-is_empty.false ∙ c.is_empty.ensures))
