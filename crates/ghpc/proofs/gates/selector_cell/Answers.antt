use Rattle.std.proofs.Common.{◌+◌, ◌*◌, ◌/◌, ◌^◌, ◌<◌, ◌≤◌, true, eqb, List, [], ◌∷◌, Some, sym, ap, ◌∙◌, arith, pow_mono}
use Rattle.std.proofs.lemmas.Nat.{one_shl}
use Rattle.netlist.specs.declared.cell.Cell.{Cell}
use Rattle.netlist.specs.Nets.{nth}
use Rattle.block.specs.Tables.{tabled, tabled_lawful}
use Rattle.constructions.specs.Gates.{look_kind, cell_of, domain_shares, cell_gates}
use Rattle.constructions.proofs.TableNumbers.{table_one}
use Rattle.ghpc.proofs.gates.selector_cell.Goals as goal

pub overflow_shl-i : goal.overflow_shl-i
overflow_shl-i c =
    let t = tabled c.args.table.now in
    let most : 2 ^ t.n ≤ 2 ^ 4 = pow_mono (tabled_lawful c.args.table.now).few_inputs in
    omega (arith, c.requires.within)

pub returns-then-k-eq0 : goal.returns-then-k-eq0
returns-then-k-eq0 c =
    let t = tabled c.args.table.now in
    let k = c.args.k in
    let cells : List Cell = (cell_gates t).look true (λ a. eqb a (k / 2)) ∷ (cell_gates t).reg (c.args.first + 2 * (k / 2)) ∷ [] in
    let most : 2 ^ t.n ≤ 2 ^ 4 = pow_mono (tabled_lawful c.args.table.now).few_inputs in
    let low : k / 2 < 16 = omega (arith, c.requires.within) in
    let bits = one_shl (k / 2) 16 low ∙ sym (table_one t (k / 2) (omega (arith, c.requires.within))) in
    ap Some (c.look.ensures ∙ ap (λ b. cell_of (look_kind t.n) b (domain_shares t true)) bits) ∙ sym (ap (nth cells) c.if-k-eq0.true)
