-- What a probe on each wire of GHPC_LL sees is narrow and clean in a domain, and so is each bundle in its own.
use Rattle.std.proofs.Common.{◌≡◌, ℕ, suc, ◌+◌, ◌*◌, ◌<◌, ◌≤◌, Bool, true, false, List, [], ◌∷◌, ◌++◌, length, sym, refl, ap, ◌∙◌, mul-le-mul, arith, length-append}
use lib.Bits.{bit_xor}
use Rattle.std.specs.List.{AllByRecursion}
use Rattle.std.proofs.ByRecursion.{All-append}
use Rattle.netlist.specs.Circuit.{number, Wires, mask_count, seen}
use Rattle.isolation.specs.Patterns.{xor, xors, share_wire}
use Rattle.isolation.proofs.Xors.{get_or_xors}
use Rattle.isolation.proofs.Shares.{share_below}
use Rattle.isolation.proofs.Inputs.{seen_share}
use Rattle.isolation.proofs.Criteria.{Restored, Still, still_share}
use Rattle.block.specs.Blocks.{Table, LawfulTable, output_at}
use Rattle.verdict.specs.Rules.{circuit_of, bundle}
use Rattle.constructions.specs.Gates.{each, rows, argument_count, domain_shares, among}
use Rattle.constructions.specs.LowLatency.{mask, decoded, selector, entry, masked, held, product_1, product_0, partial_1, partial_0, output_0, low_latency_of}
use Rattle.constructions.specs.LowLatencyForms.{mask_bit, factors_1, factors_0}
use Rattle.constructions.proofs.Rows.{length_each, length_rows, get_or_grid, all_rows}
use Rattle.constructions.proofs.Selecting.{taken_up}
use Rattle.constructions.proofs.Inputs.{still_shares}
use Rattle.constructions.proofs.Known.{Isolated, known, known_alone, known_still, known_restored}
use Rattle.constructions.proofs.LowCounts.{few_arguments, masks_low_latency}
use Rattle.constructions.proofs.LowValues.{settles}
use Rattle.constructions.proofs.LowSelected.{clean_outputs_0}
use Rattle.constructions.proofs.LowProbes.{probes_see}

module _ (t : Table) (l : LawfulTable t) where
  -- the shift that makes up for a change of domain 0 from y to z, for each mask by itself
  abbrev change : List Bool → List Bool → ℕ → ℕ → Bool
  change y z c i = xor (output_at t c (bit_xor (number y) i)) (output_at t c (bit_xor (number z) i))

  abbrev makes_up : List Bool → List Bool → List Bool → List Bool
  makes_up x y z = rows t.m (λ c. each (argument_count t) (change y z c))

  length_makes_up : (x y z : List Bool) → length (makes_up x y z) ≡ mask_count (circuit_of (low_latency_of t))
  length_makes_up x y z =
      length_rows t.m (argument_count t) (λ c. each (argument_count t) (change y z c)) (λ c. length_each (argument_count t) (change y z c)) ∙ sym (masks_low_latency t l)

  -- wires that do not turn on the other domain
  still_mask : (d : Bool) (c i : ℕ) → c < t.m → i < argument_count t → Still (circuit_of (low_latency_of t)) d (mask t c i)
  still_mask false c i h b x y z masks hx hy hz = (settles t l x y masks hx hy).at_mask c i h b ∙ sym ((settles t l x z masks hx hz).at_mask c i h b)
  still_mask true c i h b x y z masks hx hy hz = (settles t l y x masks hy hx).at_mask c i h b ∙ sym ((settles t l z x masks hz hx).at_mask c i h b)

  still_selector : (i : ℕ) → i < argument_count t → Still (circuit_of (low_latency_of t)) true (selector t i)
  still_selector i h x y z masks hx hy hz = (settles t l y x masks hy hx).at_selector i h ∙ sym ((settles t l z x masks hz hx).at_selector i h)

  still_held : (c i : ℕ) → c < t.m → i < argument_count t → Still (circuit_of (low_latency_of t)) false (held t c i)
  still_held c i h b x y z masks hx hy hz = (settles t l x y masks hx hy).at_held c i h b ∙ sym ((settles t l x z masks hx hz).at_held c i h b)

  still_output_0 : (c : ℕ) → c < t.m → Still (circuit_of (low_latency_of t)) true (output_0 t c)
  still_output_0 c h x y z masks hx hy hz = (settles t l y x masks hy hx).at_output_0 c h ∙ sym ((settles t l z x masks hz hx).at_output_0 c h)

  -- wires that a shift of the masks restores
  abbrev MadeUp : ℕ → Type 0
  MadeUp w = Restored (circuit_of (low_latency_of t)) true makes_up w

  restored_selector : (i : ℕ) → i < argument_count t → MadeUp (selector t i)
  restored_selector i h x y z masks hx hy hz hm =
      (settles t l y x masks hy hx).at_selector i h ∙ sym ((settles t l z x (xors masks (makes_up x y z)) hz hx).at_selector i h)

  restored_held : (c i : ℕ) → c < t.m → i < argument_count t → MadeUp (held t c i)
  restored_held c i h b x y z masks hx hy hz hm =
      (settles t l y x masks hy hx).at_held c i h b
      ∙ taken_up (output_at t c (bit_xor (number y) i)) (output_at t c (bit_xor (number z) i)) (mask_bit t masks c i)
      ∙ ap (xor (output_at t c (bit_xor (number z) i)))
      (sym (get_or_xors masks (makes_up x y z) (c * argument_count t + i) ∙ ap (xor (mask_bit t masks c i)) (get_or_grid t.m (argument_count t) (change y z) false c i h b)))
      ∙ sym ((settles t l z x (xors masks (makes_up x y z)) hz hx).at_held c i h b)

  -- what probes see
  length_shares : (d : Bool) → length (domain_shares t d) ≡ t.n
  length_shares d = length_each t.n (share_wire d)

  length_factors_0 : (c i : ℕ) → length (factors_0 t c i) ≡ t.n + 1
  length_factors_0 c i = omega (arith, length-append (domain_shares t true) (mask t c i ∷ []), length_shares true)

  abbrev Fine : Bool → ℕ → Type 0
  Fine d w = Isolated (low_latency_of t) d (seen (circuit_of (low_latency_of t)) w)

  made_up : (S : Wires) (ws : List ℕ) → S ≡ among ws → length ws ≤ 64 → AllByRecursion MadeUp ws → Isolated (low_latency_of t) true S
  made_up = known_restored (low_latency_of t) true makes_up length_makes_up

  restored_factors : (c i : ℕ) → c < t.m → i < argument_count t → AllByRecursion MadeUp (factors_1 t c i)
  restored_factors c i h b = (restored_selector i b, (restored_held c i h b, tt))

  still_factors : (c i : ℕ) → c < t.m → i < argument_count t → AllByRecursion (Still (circuit_of (low_latency_of t)) true) (factors_0 t c i)
  still_factors c i h b =
      All-append (Still (circuit_of (low_latency_of t)) true) (domain_shares t true) (mask t c i ∷ []) (still_shares (low_latency_of t) true)
      (still_mask true c i h b, tt)

  pub fine_share : (d : Bool) (i : ℕ) → i < t.n → Fine d (share_wire d i)
  fine_share d i h =
      known_alone (low_latency_of t) d (share_wire d i) (seen_share (circuit_of (low_latency_of t)) (share_wire d i) (share_below d i t.n h))
      (still_share (circuit_of (low_latency_of t)) d i h)

  pub fine_mask : (c i : ℕ) → c < t.m → i < argument_count t → Fine false (mask t c i)
  fine_mask c i h b = known_alone (low_latency_of t) false (mask t c i) ((probes_see t l).from_mask c i h b) (still_mask false c i h b)

  pub fine_decoded : (i : ℕ) → i < argument_count t → Fine true (decoded t i)
  fine_decoded i h =
      known_still (low_latency_of t) true (seen (circuit_of (low_latency_of t)) (decoded t i)) (domain_shares t true) ((probes_see t l).from_decoded i h)
      (omega (arith, length_shares true, l.few_inputs)) (still_shares (low_latency_of t) true)

  pub fine_selector : (i : ℕ) → i < argument_count t → Fine true (selector t i)
  fine_selector i h = known_alone (low_latency_of t) true (selector t i) ((probes_see t l).from_selector i h) (still_selector i h)

  pub fine_entry : (c i : ℕ) → c < t.m → i < argument_count t → Fine false (entry t c i)
  fine_entry c i h b =
      known_still (low_latency_of t) false (seen (circuit_of (low_latency_of t)) (entry t c i)) (domain_shares t false) ((probes_see t l).from_entry c i h b)
      (omega (arith, length_shares false, l.few_inputs)) (still_shares (low_latency_of t) false)

  pub fine_masked : (c i : ℕ) → c < t.m → i < argument_count t → Fine false (masked t c i)
  fine_masked c i h b =
      known_still (low_latency_of t) false (seen (circuit_of (low_latency_of t)) (masked t c i)) (domain_shares t false ++ (mask t c i ∷ []))
      ((probes_see t l).from_masked c i h b)
      (omega (arith, length-append (domain_shares t false) (mask t c i ∷ []), length_shares false, l.few_inputs))
      (All-append (Still (circuit_of (low_latency_of t)) false) (domain_shares t false) (mask t c i ∷ []) (still_shares (low_latency_of t) false)
      (still_mask false c i h b, tt))

  pub fine_held : (c i : ℕ) → c < t.m → i < argument_count t → Fine false (held t c i)
  fine_held c i h b = known_alone (low_latency_of t) false (held t c i) ((probes_see t l).from_held c i h b) (still_held c i h b)

  pub fine_product_1 : (c i : ℕ) → c < t.m → i < argument_count t → Fine true (product_1 t c i)
  fine_product_1 c i h b =
      made_up (seen (circuit_of (low_latency_of t)) (product_1 t c i)) (factors_1 t c i) ((probes_see t l).from_product_1 c i h b) (omega arith)
      (restored_factors c i h b)

  pub fine_product_0 : (c i : ℕ) → c < t.m → i < argument_count t → Fine true (product_0 t c i)
  fine_product_0 c i h b =
      known_still (low_latency_of t) true (seen (circuit_of (low_latency_of t)) (product_0 t c i)) (factors_0 t c i) ((probes_see t l).from_product_0 c i h b)
      (omega (arith, length_factors_0 c i, l.few_inputs)) (still_factors c i h b)

  pub fine_output_0 : (c : ℕ) → c < t.m → Fine true (output_0 t c)
  fine_output_0 c h = known_alone (low_latency_of t) true (output_0 t c) ((probes_see t l).from_output_0 c h) (still_output_0 c h)

  module _ (few : t.m * argument_count t ≤ 8) where
    pub fine_partial_1 : (c j : ℕ) → c < t.m → j < argument_count t → Fine true (partial_1 t c j)
    fine_partial_1 c j h b =
        made_up (seen (circuit_of (low_latency_of t)) (partial_1 t c j)) (rows (suc j) (factors_1 t c)) ((probes_see t l).from_partial_1 c j h b)
        (omega (arith, few_arguments t l few, length_rows (suc j) 2 (factors_1 t c) (λ i. refl)))
        (all_rows MadeUp (suc j) (factors_1 t c) (λ i k. restored_factors c i h (omega arith)))

    pub fine_partial_0 : (c j : ℕ) → c < t.m → j < argument_count t → Fine true (partial_0 t c j)
    fine_partial_0 c j h b =
        let p : suc j ≤ 8 = omega (arith, few_arguments t l few) in
        let q : t.n + 1 ≤ 5 = omega (arith, l.few_inputs) in
        let r : suc j * (t.n + 1) ≤ 8 * 5 = mul-le-mul p q in
        known_still (low_latency_of t) true (seen (circuit_of (low_latency_of t)) (partial_0 t c j)) (rows (suc j) (factors_0 t c))
        ((probes_see t l).from_partial_0 c j h b) (omega (arith, length_rows (suc j) (t.n + 1) (factors_0 t c) (length_factors_0 c)))
        (all_rows (Still (circuit_of (low_latency_of t)) true) (suc j) (factors_0 t c) (λ i k. still_factors c i h (omega arith)))

    pub fine_bundle : (d : Bool) → Isolated (low_latency_of t) d (bundle (low_latency_of t) d)
    fine_bundle false =
        known (low_latency_of t) false (bundle (low_latency_of t) false) (each t.m (output_0 t)) (probes_see t l).from_outputs_0
        (omega (arith, l.few_outputs, length_each t.m (output_0 t))) (clean_outputs_0 t l)
    fine_bundle true =
        made_up (bundle (low_latency_of t) true) (rows t.m (λ c. rows (argument_count t) (factors_1 t c))) (probes_see t l).from_outputs_1
        (omega (
          arith,
          length_rows t.m (argument_count t * 2) (λ c. rows (argument_count t) (factors_1 t c)) (λ c. length_rows (argument_count t) 2 (factors_1 t c) (λ i. refl)),
        ))
        (all_rows MadeUp t.m (λ c. rows (argument_count t) (factors_1 t c)) (λ c h. all_rows MadeUp (argument_count t) (factors_1 t c) (λ i b. restored_factors c i h b)))
