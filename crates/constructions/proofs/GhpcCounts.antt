-- How many wires and masks GHPC has, and its latency.
use Rattle.std.proofs.Common.{◌≡◌, ℕ, zero, suc, pred, ◌+◌, ◌*◌, ◌<◌, ◌≤◌, Bool, true, false, [], ◌∷◌, ◌++◌, length, get_or, replicate, refl, ap, ◌∙◌, mul-le-mul, arith}
use lib.ListN.{length-replicate, length-map}
use Rattle.netlist.specs.Circuit.{fresh_after, wire_count, mask_count, counts, register_counts}
use Rattle.netlist.specs.Cells.{driver}
use Rattle.block.specs.Blocks.{Table, LawfulTable}
use Rattle.verdict.specs.Rules.{circuit_of, latency}
use Rattle.constructions.specs.Gates.{argument_count, cell_gates}
use Rattle.constructions.specs.Ghpc.{mask, selector, breadth, held, term, partial, output_0, output_1, product_cells, delay_cells, output_cells, selector_cells, cells, ghpc_of}
use Rattle.constructions.specs.Theorems.{GhpcHasCounts}
use Rattle.constructions.proofs.Numbers.{some_arguments, most_arguments}
use Rattle.constructions.proofs.Drivers.{driver_gates, ghpc_drivers}
use Rattle.constructions.proofs.Fresh.{NoFresh, no_fresh_rows, no_fresh_each, no_fresh_append}
use Rattle.constructions.proofs.Frame.{fresh_framed}
use Rattle.constructions.proofs.Inputs.{counts_shares}
use Rattle.constructions.proofs.Latency.{latency_same}
use Rattle.constructions.proofs.GhpcPlaces.{products, joins, length_cells}
use Rattle.constructions.proofs.GhpcEquations.{on_mask, on_decoded, on_selector, on_entry, on_masked, on_held, on_product, on_term, on_partial, on_delayed, on_output_0}

pub wires_ghpc : (t : Table) → wire_count (circuit_of (ghpc_of t)) ≡ 2 * t.n + t.m + 2 * argument_count t + t.m * breadth t
wires_ghpc t = omega (arith, length-map (cells t (cell_gates t)) driver, length_cells t (cell_gates t))

module _ (t : Table) (l : LawfulTable t) where
  pub few_wires : wire_count (circuit_of (ghpc_of t)) ≤ 512
  few_wires =
      let b : breadth t ≤ 97 = omega (arith, most_arguments t l) in
      let c : t.m * breadth t ≤ 4 * 97 = mul-le-mul l.few_outputs b in
      omega (arith, wires_ghpc t, most_arguments t l, l.few_inputs, l.few_outputs)

  pub masks_ghpc : mask_count (circuit_of (ghpc_of t)) ≡ t.m
  masks_ghpc =
      ap (λ ds. fresh_after ds 0) (ghpc_drivers t l)
      ∙ fresh_framed t.m (argument_count t) t.m (selector_cells t (driver_gates t)) (output_cells t (driver_gates t)) (λ i a. refl) outputs
    where
      outputs : (c : ℕ) → NoFresh (output_cells t (driver_gates t) c)
      outputs c =
          no_fresh_append (products t (driver_gates t) c) (joins t (driver_gates t) c ++ delay_cells t (driver_gates t) c)
          (no_fresh_rows (argument_count t) (product_cells t (driver_gates t) c) (λ i a. refl))
          (no_fresh_append (joins t (driver_gates t) c) (delay_cells t (driver_gates t) c)
          (no_fresh_each (pred (argument_count t)) (λ j. 6) (λ j. partial t c j ∷ term t c (suc j) ∷ [])) (λ a. refl))

  abbrev registers : ℕ → ℕ
  registers w = get_or (register_counts (circuit_of (ghpc_of t))) w 0

  long : length (replicate {A = ℕ} (2 * t.n) 0) ≡ 2 * t.n
  long = length-replicate (2 * t.n) 0

  count_mask : (c : ℕ) → c < t.m → registers (mask t c) ≡ 0
  count_mask c h = on_mask t l counts (replicate (2 * t.n) 0) long c h

  count_selector : (i : ℕ) → i < argument_count t → registers (selector t i) ≡ 1
  count_selector i h =
      on_selector t l counts (replicate (2 * t.n) 0) long i h
      ∙ ap suc (on_decoded t l counts (replicate (2 * t.n) 0) long i h ∙ counts_shares (ghpc_of t) true l.some_inputs)

  module _ (c : ℕ) (h : c < t.m) where
    count_held : (i : ℕ) → i < argument_count t → registers (held t c i) ≡ 1
    count_held i b =
        let p = on_held t l counts (replicate (2 * t.n) 0) long c h i b in
        let q = on_masked t l counts (replicate (2 * t.n) 0) long c h i b in
        let r = on_entry t l counts (replicate (2 * t.n) 0) long c h i b ∙ counts_shares (ghpc_of t) false l.some_inputs in
        omega (arith, count_mask c h)

    count_term : (i : ℕ) → i < argument_count t → registers (term t c i) ≡ 2
    count_term i b =
        let p = on_term t l counts (replicate (2 * t.n) 0) long c h i b in
        let q = on_product t l counts (replicate (2 * t.n) 0) long c h i b in
        omega (arith, count_selector i b, count_held i b)

    count_partial : (j : ℕ) → j < argument_count t → registers (partial t c j) ≡ 2
    count_partial zero b = count_term 0 b
    count_partial (suc j) b =
        let p = on_partial t l counts (replicate (2 * t.n) 0) long c h j (omega arith) in
        omega (arith, count_partial j (omega arith), count_term (suc j) b)

    count_output_0 : registers (output_0 t c) ≡ 2
    count_output_0 =
        let p = on_output_0 t l counts (replicate (2 * t.n) 0) long c h in
        let q = on_delayed t l counts (replicate (2 * t.n) 0) long c h in
        omega (arith, count_mask c h)

    count_output_1 : registers (output_1 t c) ≡ 2
    count_output_1 = count_partial (pred (argument_count t)) (omega (arith, some_arguments t))

  pub latency_ghpc : latency (ghpc_of t) ≡ 2
  latency_ghpc = latency_same (ghpc_of t) t.m outputs refl 2 l.some_outputs count
    where
      outputs : Bool → ℕ → ℕ
      outputs false = output_0 t
      outputs true = output_1 t

      count : (d : Bool) (c : ℕ) → c < t.m → registers (outputs d c) ≡ 2
      count false = count_output_0
      count true = count_output_1

pub counts_ghpc : GhpcHasCounts
counts_ghpc t l = (wires_ghpc t, masks_ghpc t l, latency_ghpc t l)
