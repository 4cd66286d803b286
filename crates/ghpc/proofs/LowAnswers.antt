-- The cells of each output of a GHPC_LL block place by place, and its wires.
use Rattle.std.proofs.Common.{◌≡◌, ℕ, zero, suc, pred, ◌+◌, ◌-◌, ◌*◌, ◌/◌, ◌%◌, ◌<◌, ◌≤◌, [], ◌∷◌, Some, sym, ap, ◌∙◌, ap₂, arith}
use lib.ListN.{get_elem?}
use Rattle.netlist.specs.declared.cell.Kind.TheVariants.{Xor, Reg}
use Rattle.netlist.specs.Nets.{nth}
use Rattle.block.specs.Blocks.{Table, LawfulTable}
use Rattle.constructions.specs.Gates.{argument_count, cell_of, cell_gates}
use Rattle.constructions.specs.Chains.{chain_wire}
use Rattle.constructions.specs.LowLatency.{breadth, start, partial_1, partial_0, product_1, product_0, product_cells, join_1, join_0, output_cells, low_latency_of}
use Rattle.constructions.proofs.Numbers.{least_arguments}
use Rattle.constructions.proofs.Rows.{row_at}
use Rattle.constructions.proofs.ByNumber.{nth_same}
use Rattle.constructions.proofs.LowPlaces.{at_products, at_joins_1, at_joins_0, at_last, last}
use Rattle.constructions.proofs.LowByNumber.{low_latency_by_wire}

partial_1_more : (t : Table) (c j : ℕ) → 1 ≤ j → partial_1 t c j ≡ start t c + 5 * argument_count t + (j - 1)
partial_1_more t c zero h = absurd (omega arith)
partial_1_more t c (suc j) h = omega arith

partial_0_more : (t : Table) (c j : ℕ) → 1 ≤ j → partial_0 t c j ≡ start t c + 5 * argument_count t + pred (argument_count t) + (j - 1)
partial_0_more t c zero h = absurd (omega arith)
partial_0_more t c (suc j) h = omega arith

chain_1 : (t : Table) (c j first chain : ℕ) → first ≡ start t c + 3 → chain ≡ start t c + 5 * argument_count t → chain_wire first chain j ≡ partial_1 t c j
chain_1 t c zero first chain e s = omega arith
chain_1 t c (suc j) first chain e s = ap (λ x. x + j) s

chain_0 : (t : Table) (c j first chain : ℕ) → first ≡ start t c + 4 → chain ≡ start t c + 5 * argument_count t + pred (argument_count t) → chain_wire first chain j ≡ partial_0 t c j
chain_0 t c zero first chain e s = omega arith
chain_0 t c (suc j) first chain e s = ap (λ x. x + j) s

-- the cells of output c
module _ (t : Table) (c place : ℕ) where
  pub product_there : place < 5 * argument_count t → nth (product_cells t (cell_gates t) c (place / 5)) (place % 5) ≡ nth (output_cells t (cell_gates t) c) place
  product_there h =
      let r = row_at (argument_count t) 5 place (omega arith) (omega arith) in
      sym (nth_same (output_cells t (cell_gates t) c) (product_cells t (cell_gates t) c (place / 5)) place (place % 5)
      (ap (get_elem? (output_cells t (cell_gates t) c)) (sym r.2) ∙ at_products t (cell_gates t) c (place / 5) (place % 5) r.0 r.1))

  pub join_1_there : (first chain j : ℕ) → first ≡ start t c + 3 → chain ≡ start t c + 5 * argument_count t → place ≡ 5 * argument_count t + j → j + 1 < argument_count t
      → Some (cell_of Xor 0 (chain_wire first chain j ∷ (first + 5 * (j + 1)) ∷ [])) ≡ nth (output_cells t (cell_gates t) c) place
  join_1_there first chain j ef ec ep h =
      let x : chain_wire first chain j ≡ partial_1 t c j = chain_1 t c j first chain ef ec in
      let y : first + 5 * (j + 1) ≡ product_1 t c (suc j) = omega arith in
      let z : place ≡ argument_count t * 5 + j = omega arith in
      ap Some (ap₂ (λ v w. cell_of Xor 0 (v ∷ w ∷ [])) x y)
      ∙ sym (nth_same (output_cells t (cell_gates t) c) (join_1 t (cell_gates t) c j ∷ []) place 0 (ap (get_elem? (output_cells t (cell_gates t) c)) z ∙ at_joins_1 t (cell_gates t) c j (omega arith)))

  pub join_0_there : (first chain j : ℕ) → first ≡ start t c + 4 → chain ≡ start t c + 5 * argument_count t + pred (argument_count t)
      → place ≡ 5 * argument_count t + pred (argument_count t) + j → j + 1 < argument_count t
      → Some (cell_of Xor 0 (chain_wire first chain j ∷ (first + 5 * (j + 1)) ∷ [])) ≡ nth (output_cells t (cell_gates t) c) place
  join_0_there first chain j ef ec ep h =
      let x : chain_wire first chain j ≡ partial_0 t c j = chain_0 t c j first chain ef ec in
      let y : first + 5 * (j + 1) ≡ product_0 t c (suc j) = omega arith in
      let z : place ≡ argument_count t * 5 + (pred (argument_count t) + j) = omega arith in
      ap Some (ap₂ (λ v w. cell_of Xor 0 (v ∷ w ∷ [])) x y)
      ∙ sym (nth_same (output_cells t (cell_gates t) c) (join_0 t (cell_gates t) c j ∷ []) place 0 (ap (get_elem? (output_cells t (cell_gates t) c)) z ∙ at_joins_0 t (cell_gates t) c j (omega arith)))

  pub last_there : (v : ℕ) → 2 ≤ argument_count t → place ≡ 7 * argument_count t - 2 → v ≡ start t c + 7 * argument_count t - 3
      → Some (cell_of Reg 0 (v ∷ 0 ∷ [])) ≡ nth (output_cells t (cell_gates t) c) place
  last_there v two ep ev =
      let more = partial_0_more t c (pred (argument_count t)) (omega arith) in
      let e : v ≡ partial_0 t c (pred (argument_count t)) = omega arith in
      let z : place ≡ argument_count t * 5 + (pred (argument_count t) + (pred (argument_count t) + 0)) = omega arith in
      ap (λ o. Some (cell_of Reg 0 (o ∷ 0 ∷ []))) e
      ∙ sym (nth_same (output_cells t (cell_gates t) c) (last t (cell_gates t) c) place 0 (ap (get_elem? (output_cells t (cell_gates t) c)) z ∙ at_last t (cell_gates t) c))

-- the wires of output c, from the wire after its last
pub output_made : (t : Table) → LawfulTable t → (c end all : ℕ) → c < t.m → end ≡ start t c + breadth t → all ≡ argument_count t → Some (end - 1, end - all - 1) ≡ nth (low_latency_of t).outputs c
output_made t l c end all h e ea =
    let two = least_arguments t l in
    let first = partial_1_more t c (pred (argument_count t)) (omega arith) in
    sym ((low_latency_by_wire t).outputs c h ∙ ap₂ (λ x y. Some (x, y)) (omega arith) (omega arith))
