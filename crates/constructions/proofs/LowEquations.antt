-- The equation that each wire of GHPC_LL meets, for whatever wires carry.
use Rattle.std.proofs.Common.{◌≡◌, ℕ, zero, suc, pred, ◌+◌, ◌*◌, ◌<◌, ◌≤◌, true, false, eqb, List, [], ◌∷◌, map, length, get_or, refl, arith}
use lib.Bits.{bit_xor}
use Rattle.std.specs.List.{AllByRecursion}
use Rattle.netlist.specs.Circuit.{Driver, stored, looked, Carrier, carry}
use Rattle.block.specs.Blocks.{Table, LawfulTable, output_at}
use Rattle.verdict.specs.Rules.{circuit_of}
use Rattle.constructions.specs.Gates.{argument_count, table_of, domain_shares}
use Rattle.constructions.specs.LowLatency.{mask, decoded, selector, start, entry, masked, held, product_1, product_0, partial_1, partial_0, output_0, cells, low_latency_of}
use Rattle.constructions.proofs.Numbers.{some_arguments}
use Rattle.constructions.proofs.Drivers.{driver_gates, low_latency_drivers}
use Rattle.constructions.proofs.Standing.{Stands, on_fresh, on_stored, on_looked}
use Rattle.constructions.proofs.Inputs.{below_shares}
use Rattle.constructions.proofs.LowPlaces.{mask_within, at_masks, stands_decoded, stands_selector, stands_entry, stands_masked, stands_held, stands_product_1, stands_product_0, stands_partial_1, stands_partial_0, stands_output_0}

-- operands stand before the wire that they drive
pub mask_before : (t : Table) (c i w : ℕ) → c < t.m → i < argument_count t → 2 * t.n + t.m * argument_count t ≤ w → mask t c i < w
mask_before t c i w h l b = omega (arith, mask_within t c i h l)

pub partial_1_rises : (t : Table) (c j : ℕ) → j < pred (argument_count t) → partial_1 t c j < partial_1 t c (suc j)
partial_1_rises t c zero l = omega (arith, some_arguments t)
partial_1_rises t c (suc j) l = omega arith

pub partial_0_before : (t : Table) (c j w : ℕ) → start t c + 5 * argument_count t + pred (argument_count t) + j ≤ w → partial_0 t c j < w
partial_0_before t c zero w b = omega (arith, some_arguments t)
partial_0_before t c (suc j) w b = omega arith

module _ (t : Table) (l : LawfulTable t) {V : Type 0} (A : Carrier V) (inputs : List V) (long : length inputs ≡ 2 * t.n) where
  abbrev on : ℕ → V
  on w = get_or (carry A (circuit_of (low_latency_of t)).drivers 0 inputs) w A.none

  abbrev ds : List Driver
  ds = cells t (driver_gates t)

  stored_on : (w a : ℕ) → Stands (2 * t.n) ds w (stored a) → a < w → on w ≡ A.store w (on a)
  stored_on = on_stored A (circuit_of (low_latency_of t)).drivers ds (low_latency_drivers t l) inputs (2 * t.n) long

  looked_on : (w table : ℕ) (os : List ℕ) → Stands (2 * t.n) ds w (looked table os) → AllByRecursion (λ o. o < w) os → on w ≡ A.look table (map on os)
  looked_on = on_looked A (circuit_of (low_latency_of t)).drivers ds (low_latency_drivers t l) inputs (2 * t.n) long

  pub on_mask : (c i : ℕ) → c < t.m → i < argument_count t → on (mask t c i) ≡ A.source (mask t c i) (c * argument_count t + i)
  on_mask c i h b =
      on_fresh A (circuit_of (low_latency_of t)).drivers ds (low_latency_drivers t l) inputs (2 * t.n) long (mask t c i) (c * argument_count t + i) refl
      (λ k s. at_masks t (driver_gates t) k (omega (arith, mask_within t c i h b)))

  pub on_decoded : (i : ℕ) → i < argument_count t → on (decoded t i) ≡ A.look (table_of t (λ a. eqb a i)) (map on (domain_shares t true))
  on_decoded i h =
      looked_on (decoded t i) (table_of t (λ a. eqb a i)) (domain_shares t true) (stands_decoded t (driver_gates t) i h)
      (below_shares t true (decoded t i) (omega arith))

  pub on_selector : (i : ℕ) → i < argument_count t → on (selector t i) ≡ A.store (selector t i) (on (decoded t i))
  on_selector i h = stored_on (selector t i) (decoded t i) (stands_selector t (driver_gates t) i h) (omega arith)

  module _ (c : ℕ) (h : c < t.m) where
    pub on_entry : (i : ℕ) → i < argument_count t → on (entry t c i) ≡ A.look (table_of t (λ a. output_at t c (bit_xor a i))) (map on (domain_shares t false))
    on_entry i b =
        looked_on (entry t c i) (table_of t (λ a. output_at t c (bit_xor a i))) (domain_shares t false) (stands_entry t (driver_gates t) c h i b)
        (below_shares t false (entry t c i) (omega arith))

    pub on_masked : (i : ℕ) → i < argument_count t → on (masked t c i) ≡ A.look 6 (on (entry t c i) ∷ on (mask t c i) ∷ [])
    on_masked i b =
        looked_on (masked t c i) 6 (entry t c i ∷ mask t c i ∷ []) (stands_masked t (driver_gates t) c h i b)
        (omega arith, (mask_before t c i (masked t c i) h b (omega arith), tt))

    pub on_held : (i : ℕ) → i < argument_count t → on (held t c i) ≡ A.store (held t c i) (on (masked t c i))
    on_held i b = stored_on (held t c i) (masked t c i) (stands_held t (driver_gates t) c h i b) (omega arith)

    pub on_product_1 : (i : ℕ) → i < argument_count t → on (product_1 t c i) ≡ A.look 8 (on (selector t i) ∷ on (held t c i) ∷ [])
    on_product_1 i b =
        looked_on (product_1 t c i) 8 (selector t i ∷ held t c i ∷ []) (stands_product_1 t (driver_gates t) c h i b) (omega arith, (omega arith, tt))

    pub on_product_0 : (i : ℕ) → i < argument_count t → on (product_0 t c i) ≡ A.look 8 (on (decoded t i) ∷ on (mask t c i) ∷ [])
    on_product_0 i b =
        looked_on (product_0 t c i) 8 (decoded t i ∷ mask t c i ∷ []) (stands_product_0 t (driver_gates t) c h i b)
        (omega arith, (mask_before t c i (product_0 t c i) h b (omega arith), tt))

    pub on_partial_1 : (j : ℕ) → j < pred (argument_count t) → on (partial_1 t c (suc j)) ≡ A.look 6 (on (partial_1 t c j) ∷ on (product_1 t c (suc j)) ∷ [])
    on_partial_1 j b =
        looked_on (partial_1 t c (suc j)) 6 (partial_1 t c j ∷ product_1 t c (suc j) ∷ []) (stands_partial_1 t (driver_gates t) c h j b)
        (partial_1_rises t c j b, (omega arith, tt))

    pub on_partial_0 : (j : ℕ) → j < pred (argument_count t) → on (partial_0 t c (suc j)) ≡ A.look 6 (on (partial_0 t c j) ∷ on (product_0 t c (suc j)) ∷ [])
    on_partial_0 j b =
        looked_on (partial_0 t c (suc j)) 6 (partial_0 t c j ∷ product_0 t c (suc j) ∷ []) (stands_partial_0 t (driver_gates t) c h j b)
        (partial_0_before t c j (partial_0 t c (suc j)) (omega arith), (omega arith, tt))

    pub on_output_0 : on (output_0 t c) ≡ A.store (output_0 t c) (on (partial_0 t c (pred (argument_count t))))
    on_output_0 =
        stored_on (output_0 t c) (partial_0 t c (pred (argument_count t))) (stands_output_0 t (driver_gates t) c h)
        (partial_0_before t c (pred (argument_count t)) (output_0 t c) (omega arith))
