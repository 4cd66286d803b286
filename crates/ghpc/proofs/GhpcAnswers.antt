-- The cells of each output of a GHPC block place by place, and its wires.
use Rattle.std.proofs.Common.{◌≡◌, ℕ, zero, suc, pred, ◌+◌, ◌-◌, ◌*◌, ◌/◌, ◌%◌, ◌<◌, ◌≤◌, [], ◌∷◌, Some, sym, ap, ◌∙◌, ap₂, arith}
use lib.ListN.{get_elem?}
use Rattle.netlist.specs.declared.cell.Kind.TheVariants.{Xor, Reg}
use Rattle.netlist.specs.Nets.{nth}
use Rattle.block.specs.Blocks.{Table, LawfulTable}
use Rattle.constructions.specs.Gates.{argument_count, cell_of, cell_gates}
use Rattle.constructions.specs.Chains.{chain_wire}
use Rattle.constructions.specs.Ghpc.{breadth, start, partial, term, delayed, product_cells, join_cell, delay_cells, output_cells, ghpc_of}
use Rattle.constructions.proofs.Numbers.{least_arguments}
use Rattle.constructions.proofs.Rows.{row_at}
use Rattle.constructions.proofs.ByNumber.{nth_same}
use Rattle.constructions.proofs.GhpcPlaces.{at_products, at_joins, at_delays}
use Rattle.constructions.proofs.GhpcByNumber.{ghpc_by_wire}

partial_more : (t : Table) (c j : ℕ) → 1 ≤ j → partial t c j ≡ start t c + 5 * argument_count t + (j - 1)
partial_more t c zero h = absurd (omega arith)
partial_more t c (suc j) h = omega arith

partial_chain : (t : Table) (c j first chain : ℕ) → first ≡ start t c + 4 → chain ≡ start t c + 5 * argument_count t → chain_wire first chain j ≡ partial t c j
partial_chain t c zero first chain e s = omega arith
partial_chain t c (suc j) first chain e s = ap (λ x. x + j) s

-- the cells of output c
module _ (t : Table) (c place : ℕ) where
  pub product_there : place < 5 * argument_count t → nth (product_cells t (cell_gates t) c (place / 5)) (place % 5) ≡ nth (output_cells t (cell_gates t) c) place
  product_there h =
      let r = row_at (argument_count t) 5 place (omega arith) (omega arith) in
      sym (nth_same (output_cells t (cell_gates t) c) (product_cells t (cell_gates t) c (place / 5)) place (place % 5)
      (ap (get_elem? (output_cells t (cell_gates t) c)) (sym r.2) ∙ at_products t (cell_gates t) c (place / 5) (place % 5) r.0 r.1))

  pub join_there : (first chain j : ℕ) → first ≡ start t c + 4 → chain ≡ start t c + 5 * argument_count t → place ≡ 5 * argument_count t + j → j + 1 < argument_count t
      → Some (cell_of Xor 0 (chain_wire first chain j ∷ (first + 5 * (j + 1)) ∷ [])) ≡ nth (output_cells t (cell_gates t) c) place
  join_there first chain j ef ec ep h =
      let x : chain_wire first chain j ≡ partial t c j = partial_chain t c j first chain ef ec in
      let y : first + 5 * (j + 1) ≡ term t c (suc j) = omega arith in
      let z : place ≡ argument_count t * 5 + j = omega arith in
      ap Some (ap₂ (λ v w. cell_of Xor 0 (v ∷ w ∷ [])) x y)
      ∙ sym (nth_same (output_cells t (cell_gates t) c) (join_cell t (cell_gates t) c j ∷ []) place 0 (ap (get_elem? (output_cells t (cell_gates t) c)) z ∙ at_joins t (cell_gates t) c j (omega arith)))

  delay_at : (j : ℕ) → place ≡ argument_count t * 5 + (pred (argument_count t) + j) → nth (delay_cells t (cell_gates t) c) j ≡ nth (output_cells t (cell_gates t) c) place
  delay_at j z = sym (nth_same (output_cells t (cell_gates t) c) (delay_cells t (cell_gates t) c) place j (ap (get_elem? (output_cells t (cell_gates t) c)) z ∙ at_delays t (cell_gates t) c j))

  pub delay_there : (v : ℕ) → 1 ≤ argument_count t → place ≡ 6 * argument_count t - 1 → v ≡ 2 * t.n + c → Some (cell_of Reg 0 (v ∷ 0 ∷ [])) ≡ nth (output_cells t (cell_gates t) c) place
  delay_there v some ep ev = ap (λ o. Some (cell_of Reg 0 (o ∷ 0 ∷ []))) ev ∙ delay_at 0 (omega arith)

  pub output_0_there : (v : ℕ) → 1 ≤ argument_count t → place ≡ 6 * argument_count t → v ≡ start t c + 6 * argument_count t - 1
      → Some (cell_of Reg 0 (v ∷ 0 ∷ [])) ≡ nth (output_cells t (cell_gates t) c) place
  output_0_there v some ep ev = let e : v ≡ delayed t c = omega arith in ap (λ o. Some (cell_of Reg 0 (o ∷ 0 ∷ []))) e ∙ delay_at 1 (omega arith)

-- the wires of output c, from the wire after its last
pub output_made : (t : Table) → LawfulTable t → (c end : ℕ) → c < t.m → end ≡ start t c + breadth t → Some (end - 1, end - 3) ≡ nth (ghpc_of t).outputs c
output_made t l c end h e =
    let two = least_arguments t l in
    let first = partial_more t c (pred (argument_count t)) (omega arith) in
    sym ((ghpc_by_wire t).outputs c h ∙ ap₂ (λ x y. Some (x, y)) (omega arith) (omega arith))
