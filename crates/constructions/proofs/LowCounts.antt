-- How many wires and masks GHPC_LL has, and its latency.
use Rattle.std.proofs.Common.{◌≡◌, ℕ, zero, suc, pred, ◌+◌, ◌-◌, ◌*◌, ◌<◌, ◌≤◌, Bool, true, false, [], ◌∷◌, ◌++◌, length, get_or, replicate, refl, ap, ◌∙◌, mul-le-mul, arith, pow_mono}
use lib.ListN.{length-replicate, length-map}
use Rattle.netlist.specs.Circuit.{fresh_after, wire_count, mask_count, counts, register_counts}
use Rattle.netlist.specs.Cells.{driver}
use Rattle.block.specs.Blocks.{Table, LawfulTable}
use Rattle.verdict.specs.Rules.{circuit_of, latency}
use Rattle.constructions.specs.Gates.{argument_count, cell_gates}
use Rattle.constructions.specs.LowLatency.{mask, decoded, selector, breadth, product_1, product_0, partial_1, partial_0, output_0, output_1, product_cells, output_cells, selector_cells, cells, low_latency_of}
use Rattle.constructions.specs.Theorems.{LowLatencyHasCounts}
use Rattle.constructions.proofs.Numbers.{some_arguments}
use Rattle.constructions.proofs.Drivers.{driver_gates, low_latency_drivers}
use Rattle.constructions.proofs.Fresh.{NoFresh, no_fresh_rows, no_fresh_each, no_fresh_append}
use Rattle.constructions.proofs.Frame.{fresh_framed}
use Rattle.constructions.proofs.Inputs.{counts_shares}
use Rattle.constructions.proofs.Latency.{latency_same}
use Rattle.constructions.proofs.LowPlaces.{length_cells, products, joins_1, joins_0, last}
use Rattle.constructions.proofs.LowEquations.{on_mask, on_decoded, on_selector, on_entry, on_masked, on_held, on_product_1, on_product_0, on_partial_1, on_partial_0, on_output_0}

pub wires_low_latency : (t : Table) → wire_count (circuit_of (low_latency_of t)) ≡ 2 * t.n + t.m * argument_count t + 2 * argument_count t + t.m * breadth t
wires_low_latency t = omega (arith, length-map (cells t (cell_gates t)) driver, length_cells t (cell_gates t))

module _ (t : Table) (l : LawfulTable t) where
  -- within a netlist's bound for every table, and within a block's where the masks are few
  pub within_wires : wire_count (circuit_of (low_latency_of t)) ≤ 4096
  within_wires =
      let a : argument_count t ≤ 16 = pow_mono l.few_inputs in
      let b : breadth t ≤ 111 = omega arith in
      let c : t.m * breadth t ≤ 4 * 111 = mul-le-mul l.few_outputs b in
      let d : t.m * argument_count t ≤ 4 * 16 = mul-le-mul l.few_outputs a in
      omega (arith, wires_low_latency t, l.few_inputs)

  pub few_arguments : t.m * argument_count t ≤ 8 → argument_count t ≤ 8
  few_arguments h =
      let n : argument_count t ≤ argument_count t = omega arith in
      let k : 1 * argument_count t ≤ t.m * argument_count t = mul-le-mul l.some_outputs n in
      omega arith

  pub few_wires : t.m * argument_count t ≤ 8 → wire_count (circuit_of (low_latency_of t)) ≤ 512
  few_wires h =
      let b : breadth t ≤ 55 = omega (arith, few_arguments h) in
      let c : t.m * breadth t ≤ 4 * 55 = mul-le-mul l.few_outputs b in
      omega (arith, wires_low_latency t, few_arguments h, l.few_inputs)

  pub masks_low_latency : mask_count (circuit_of (low_latency_of t)) ≡ t.m * argument_count t
  masks_low_latency =
      ap (λ ds. fresh_after ds 0) (low_latency_drivers t l)
      ∙ fresh_framed (t.m * argument_count t) (argument_count t) t.m (selector_cells t (driver_gates t)) (output_cells t (driver_gates t)) (λ i a. refl) outputs
    where
      outputs : (c : ℕ) → NoFresh (output_cells t (driver_gates t) c)
      outputs c =
          no_fresh_append (products t (driver_gates t) c) (joins_1 t (driver_gates t) c ++ (joins_0 t (driver_gates t) c ++ last t (driver_gates t) c))
          (no_fresh_rows (argument_count t) (product_cells t (driver_gates t) c) (λ i a. refl))
          (no_fresh_append (joins_1 t (driver_gates t) c) (joins_0 t (driver_gates t) c ++ last t (driver_gates t) c)
          (no_fresh_each (pred (argument_count t)) (λ j. 6) (λ j. partial_1 t c j ∷ product_1 t c (suc j) ∷ []))
          (no_fresh_append (joins_0 t (driver_gates t) c) (last t (driver_gates t) c)
          (no_fresh_each (pred (argument_count t)) (λ j. 6) (λ j. partial_0 t c j ∷ product_0 t c (suc j) ∷ [])) (λ a. refl)))

  abbrev registers : ℕ → ℕ
  registers w = get_or (register_counts (circuit_of (low_latency_of t))) w 0

  long : length (replicate {A = ℕ} (2 * t.n) 0) ≡ 2 * t.n
  long = length-replicate (2 * t.n) 0

  count_mask : (c i : ℕ) → c < t.m → i < argument_count t → registers (mask t c i) ≡ 0
  count_mask c i h b = on_mask t l counts (replicate (2 * t.n) 0) long c i h b

  count_decoded : (i : ℕ) → i < argument_count t → registers (decoded t i) ≡ 0
  count_decoded i h = on_decoded t l counts (replicate (2 * t.n) 0) long i h ∙ counts_shares (low_latency_of t) true l.some_inputs

  count_selector : (i : ℕ) → i < argument_count t → registers (selector t i) ≡ 1
  count_selector i h = on_selector t l counts (replicate (2 * t.n) 0) long i h ∙ ap suc (count_decoded i h)

  module _ (c : ℕ) (h : c < t.m) where
    count_product_1 : (i : ℕ) → i < argument_count t → registers (product_1 t c i) ≡ 1
    count_product_1 i b =
        let p = on_product_1 t l counts (replicate (2 * t.n) 0) long c h i b in
        let q = on_held t l counts (replicate (2 * t.n) 0) long c h i b in
        let r = on_masked t l counts (replicate (2 * t.n) 0) long c h i b in
        let s = on_entry t l counts (replicate (2 * t.n) 0) long c h i b ∙ counts_shares (low_latency_of t) false l.some_inputs in
        omega (arith, count_selector i b, count_mask c i h b)

    count_product_0 : (i : ℕ) → i < argument_count t → registers (product_0 t c i) ≡ 0
    count_product_0 i b =
        let p = on_product_0 t l counts (replicate (2 * t.n) 0) long c h i b in
        omega (arith, count_decoded i b, count_mask c i h b)

    count_partial_1 : (j : ℕ) → j < argument_count t → registers (partial_1 t c j) ≡ 1
    count_partial_1 zero b = count_product_1 0 b
    count_partial_1 (suc j) b =
        let p = on_partial_1 t l counts (replicate (2 * t.n) 0) long c h j (omega arith) in
        omega (arith, count_partial_1 j (omega arith), count_product_1 (suc j) b)

    count_partial_0 : (j : ℕ) → j < argument_count t → registers (partial_0 t c j) ≡ 0
    count_partial_0 zero b = count_product_0 0 b
    count_partial_0 (suc j) b =
        let p = on_partial_0 t l counts (replicate (2 * t.n) 0) long c h j (omega arith) in
        omega (arith, count_partial_0 j (omega arith), count_product_0 (suc j) b)

    count_output_0 : registers (output_0 t c) ≡ 1
    count_output_0 =
        on_output_0 t l counts (replicate (2 * t.n) 0) long c h ∙ ap suc (count_partial_0 (pred (argument_count t)) (omega (arith, some_arguments t)))

    count_output_1 : registers (output_1 t c) ≡ 1
    count_output_1 = count_partial_1 (pred (argument_count t)) (omega (arith, some_arguments t))

  pub latency_low_latency : latency (low_latency_of t) ≡ 1
  latency_low_latency = latency_same (low_latency_of t) t.m outputs refl 1 l.some_outputs count
    where
      outputs : Bool → ℕ → ℕ
      outputs false = output_0 t
      outputs true = output_1 t

      count : (d : Bool) (c : ℕ) → c < t.m → registers (outputs d c) ≡ 1
      count false = count_output_0
      count true = count_output_1

pub counts_low_latency : LowLatencyHasCounts
counts_low_latency t l =
    let z : breadth t ≡ 7 * argument_count t - 1 = omega (arith, some_arguments t) in
    (wires_low_latency t ∙ ap (λ b. 2 * t.n + t.m * argument_count t + 2 * argument_count t + t.m * b) z, masks_low_latency t l, latency_low_latency t l)
