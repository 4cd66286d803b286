-- A gate that stands on a wire, and the equation that the wire then meets, for whatever wires carry.
use Rattle.std.proofs.Common.{◌≡◌, ℕ, ◌+◌, ◌-◌, ◌<◌, ◌≤◌, List, [], ◌∷◌, map, length, get_or, ap, ◌∙◌, zero-add, arith}
use mathlib.Core.Option.{some}
use lib.ListN.{get_elem?}
use Rattle.std.specs.List.{AllByRecursion}
use Rattle.netlist.specs.Circuit.{Driver, fresh, stored, looked, Carrier, carry}
use Rattle.isolation.proofs.Reading.{AllBelow, fresh_before_all, at_fresh, at_stored, at_looked}
use Rattle.constructions.proofs.Rows.{get_or_some}

-- x stands on wire w, where cs stand from wire p on
abbrev pub Stands : {C : Type 0} → ℕ → List C → ℕ → C → Type 0
Stands p cs w x = (j : ℕ) × (w ≡ p + j) × (get_elem? cs j ≡ some x)

pub get_or_stands : {C : Type 0} (p : ℕ) (cs : List C) (w : ℕ) (x d : C) → Stands p cs w x → get_or cs (w - p) d ≡ x
get_or_stands p cs w x d s = let e : w - p ≡ s.0 = omega (arith, s.1) in ap (λ j. get_or cs j d) e ∙ get_or_some cs s.0 x d s.2

all_below : (w : ℕ) (os : List ℕ) → AllByRecursion (λ o. o < w) os → AllBelow w os
all_below w [] h = tt
all_below w (o ∷ os) h = (h.0, all_below w os h.1)

module _ {V : Type 0} (A : Carrier V) (cs ds : List Driver) (same : cs ≡ ds) (inputs : List V) (p : ℕ) (long : length inputs ≡ p) where
  abbrev carried_on : ℕ → V
  carried_on w = get_or (carry A cs 0 inputs) w A.none

  moved : (j : ℕ) (d : Driver) → get_elem? ds j ≡ some d → get_elem? cs j ≡ some d
  moved j d e = ap (λ l. get_elem? l j) same ∙ e

  pub on_fresh : (w k : ℕ) → w ≡ p + k → ((i : ℕ) → i ≤ k → get_elem? ds i ≡ some fresh) → carried_on w ≡ A.source w k
  on_fresh w k e h =
      at_fresh A cs inputs p long w k e (moved k fresh (h k (omega arith)))
      ∙ ap (A.source w) (fresh_before_all cs k 0 (λ i l. moved i fresh (h i (omega arith))) ∙ zero-add k)

  pub on_stored : (w a : ℕ) → Stands p ds w (stored a) → a < w → carried_on w ≡ A.store w (carried_on a)
  on_stored w a s b = at_stored A cs inputs p long w s.0 a s.1 (moved s.0 (stored a) s.2) b

  pub on_looked : (w t : ℕ) (os : List ℕ) → Stands p ds w (looked t os) → AllByRecursion (λ o. o < w) os → carried_on w ≡ A.look t (map carried_on os)
  on_looked w t os s b = at_looked A cs inputs p long w s.0 t os s.1 (moved s.0 (looked t os) s.2) (all_below w os b)
