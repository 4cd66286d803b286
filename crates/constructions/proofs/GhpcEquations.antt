-- The equation that each wire of GHPC meets, for whatever wires carry.
use Rattle.std.proofs.Common.{◌≡◌, ℕ, zero, suc, pred, ◌*◌, ◌<◌, true, false, eqb, List, [], ◌∷◌, map, length, get_or, refl, arith}
use lib.Bits.{bit_xor}
use Rattle.std.specs.List.{AllByRecursion}
use Rattle.netlist.specs.Circuit.{Driver, stored, looked, Carrier, carry}
use Rattle.block.specs.Blocks.{Table, LawfulTable, output_at}
use Rattle.verdict.specs.Rules.{circuit_of}
use Rattle.constructions.specs.Gates.{argument_count, table_of, domain_shares}
use Rattle.constructions.specs.Ghpc.{mask, decoded, selector, entry, masked, held, product, term, partial, delayed, output_0, cells, ghpc_of}
use Rattle.constructions.proofs.Numbers.{some_arguments}
use Rattle.constructions.proofs.Drivers.{driver_gates, ghpc_drivers}
use Rattle.constructions.proofs.Standing.{Stands, on_fresh, on_stored, on_looked}
use Rattle.constructions.proofs.Inputs.{below_shares}
use Rattle.constructions.proofs.GhpcPlaces.{at_masks, stands_decoded, stands_selector, stands_entry, stands_masked, stands_held, stands_product, stands_term, stands_partial, stands_delayed, stands_output_0}

-- operands stand before the wire that they drive
pub partial_rises : (t : Table) (c j : ℕ) → j < pred (argument_count t) → partial t c j < partial t c (suc j)
partial_rises t c zero l = omega (arith, some_arguments t)
partial_rises t c (suc j) l = omega arith

module _ (t : Table) (l : LawfulTable t) {V : Type 0} (A : Carrier V) (inputs : List V) (long : length inputs ≡ 2 * t.n) where
  abbrev on : ℕ → V
  on w = get_or (carry A (circuit_of (ghpc_of t)).drivers 0 inputs) w A.none

  abbrev ds : List Driver
  ds = cells t (driver_gates t)

  stored_on : (w a : ℕ) → Stands (2 * t.n) ds w (stored a) → a < w → on w ≡ A.store w (on a)
  stored_on = on_stored A (circuit_of (ghpc_of t)).drivers ds (ghpc_drivers t l) inputs (2 * t.n) long

  looked_on : (w table : ℕ) (os : List ℕ) → Stands (2 * t.n) ds w (looked table os) → AllByRecursion (λ o. o < w) os → on w ≡ A.look table (map on os)
  looked_on = on_looked A (circuit_of (ghpc_of t)).drivers ds (ghpc_drivers t l) inputs (2 * t.n) long

  pub on_mask : (c : ℕ) → c < t.m → on (mask t c) ≡ A.source (mask t c) c
  on_mask c h =
      on_fresh A (circuit_of (ghpc_of t)).drivers ds (ghpc_drivers t l) inputs (2 * t.n) long (mask t c) c refl
      (λ i b. at_masks t (driver_gates t) i (omega arith))

  pub on_decoded : (i : ℕ) → i < argument_count t → on (decoded t i) ≡ A.look (table_of t (λ a. eqb a i)) (map on (domain_shares t true))
  on_decoded i h =
      looked_on (decoded t i) (table_of t (λ a. eqb a i)) (domain_shares t true) (stands_decoded t (driver_gates t) i h)
      (below_shares t true (decoded t i) (omega arith))

  pub on_selector : (i : ℕ) → i < argument_count t → on (selector t i) ≡ A.store (selector t i) (on (decoded t i))
  on_selector i h = stored_on (selector t i) (decoded t i) (stands_selector t (driver_gates t) i h) (omega arith)

  module _ (c : ℕ) (h : c < t.m) where
    pub on_entry : (i : ℕ) → i < argument_count t → on (entry t c i) ≡ A.look (table_of t (λ a. output_at t c (bit_xor a i))) (map on (domain_shares t false))
    on_entry i b =
        looked_on (entry t c i) (table_of t (λ a. output_at t c (bit_xor a i))) (domain_shares t false) (stands_entry t (driver_gates t) c h i b)
        (below_shares t false (entry t c i) (omega arith))

    pub on_masked : (i : ℕ) → i < argument_count t → on (masked t c i) ≡ A.look 6 (on (entry t c i) ∷ on (mask t c) ∷ [])
    on_masked i b =
        looked_on (masked t c i) 6 (entry t c i ∷ mask t c ∷ []) (stands_masked t (driver_gates t) c h i b) (omega arith, (omega arith, tt))

    pub on_held : (i : ℕ) → i < argument_count t → on (held t c i) ≡ A.store (held t c i) (on (masked t c i))
    on_held i b = stored_on (held t c i) (masked t c i) (stands_held t (driver_gates t) c h i b) (omega arith)

    pub on_product : (i : ℕ) → i < argument_count t → on (product t c i) ≡ A.look 8 (on (selector t i) ∷ on (held t c i) ∷ [])
    on_product i b =
        looked_on (product t c i) 8 (selector t i ∷ held t c i ∷ []) (stands_product t (driver_gates t) c h i b) (omega arith, (omega arith, tt))

    pub on_term : (i : ℕ) → i < argument_count t → on (term t c i) ≡ A.store (term t c i) (on (product t c i))
    on_term i b = stored_on (term t c i) (product t c i) (stands_term t (driver_gates t) c h i b) (omega arith)

    pub on_partial : (j : ℕ) → j < pred (argument_count t) → on (partial t c (suc j)) ≡ A.look 6 (on (partial t c j) ∷ on (term t c (suc j)) ∷ [])
    on_partial j b =
        looked_on (partial t c (suc j)) 6 (partial t c j ∷ term t c (suc j) ∷ []) (stands_partial t (driver_gates t) c h j b)
        (partial_rises t c j b, (omega arith, tt))

    pub on_delayed : on (delayed t c) ≡ A.store (delayed t c) (on (mask t c))
    on_delayed = stored_on (delayed t c) (mask t c) (stands_delayed t (driver_gates t) c h) (omega arith)

    pub on_output_0 : on (output_0 t c) ≡ A.store (output_0 t c) (on (delayed t c))
    on_output_0 = stored_on (output_0 t c) (delayed t c) (stands_output_0 t (driver_gates t) c h) (omega arith)
