-- Sets of wires given by lists: their unions, what holds of each of their wires, and how many there are.
use Rattle.std.proofs.Common.{◌≡◌, ℕ, zero, suc, ◌+◌, ◌≤◌, Bool, true, false, ◌||◌, eqb, List, [], ◌∷◌, ◌++◌, map, length, sym, refl, ap, ◌∙◌, subst, ap₂, inl, inr, arith}
use mathlib.Core.Path.{fun_ext}
use mathlib.Core.Bool.{or-false, or_assoc}
use Rattle.std.specs.List.{flat_map as concat, AllByRecursion}
use Rattle.std.proofs.lemmas.Bool.{eqb-true, ne_eqb, or_cases}
use Rattle.netlist.specs.Circuit.{Wires, no_wire, alone, union}
use Rattle.isolation.specs.Patterns.{one_if, size}

-- the wires of a list
abbrev pub among : List ℕ → Wires
among ws = union (map alone ws)

pub among_one : (w : ℕ) → alone w ≡ among (w ∷ [])
among_one w = fun_ext (λ v. sym (or-false (alone w v)))

among_append : (ws us : List ℕ) (v : ℕ) → (among ws v || among us v) ≡ among (ws ++ us) v
among_append [] us v = refl
among_append (w ∷ ws) us v = or_assoc (alone w v) (among ws v) (among us v) ∙ ap (λ b. alone w v || b) (among_append ws us v)

pub union_two : (ws us : List ℕ) → union (among ws ∷ among us ∷ []) ≡ among (ws ++ us)
union_two ws us = fun_ext (λ v. ap (λ b. among ws v || b) (or-false (among us v)) ∙ among_append ws us v)

-- a union of sets that are each given by a list
pub union_concat : {X : Type 0} (sees : X → Wires) (g : X → List ℕ) (xs : List X) → AllByRecursion (λ x. sees x ≡ among (g x)) xs → union (map sees xs) ≡ among (concat g xs)
union_concat sees g [] h = refl
union_concat sees g (x ∷ xs) h =
    fun_ext (λ v. ap₂ (λ (s t : Wires). s v || t v) h.0 (union_concat sees g xs h.1) ∙ among_append (g x) (concat g xs) v)

-- what holds of each wire of the list holds of each wire of the set
pub all_among : (P : ℕ → Type 0) (ws : List ℕ) → AllByRecursion P ws → (v : ℕ) → among ws v ≡ true → P v
all_among P [] h v t = grind arith
all_among P (w ∷ ws) h v t =
    elim (or_cases (alone w v) (among ws v) t) [
      | inl e ↦ subst P (sym (eqb-true v w e)) h.0
      | inr e ↦ all_among P ws h.1 v e
    ]

-- a set is no larger than its list
size_past : (n w : ℕ) → n ≤ w → size n (alone w) ≡ 0
size_past zero w h = refl
size_past (suc n) w h = let r = size_past n w (omega arith) in let e = ap one_if (ne_eqb n w (λ e. omega arith)) in omega arith

size_alone : (n w : ℕ) → size n (alone w) ≤ 1
size_alone zero w = omega arith
size_alone (suc n) w = go (eqb n w) refl (size_alone n w)
  where
    go : (b : Bool) → eqb n w ≡ b → size n (alone w) ≤ 1 → one_if b + size n (alone w) ≤ 1
    go true e h = let l = eqb-true n w e in omega (arith, size_past n w (omega arith))
    go false e h = omega arith

size_none : (n : ℕ) → size n no_wire ≡ 0
size_none zero = refl
size_none (suc n) = let r = size_none n in omega arith

size_or : (n : ℕ) (S T : Wires) → size n (λ v. S v || T v) ≤ size n S + size n T
size_or zero S T = omega arith
size_or (suc n) S T = go (S n) (T n) (size_or n S T)
  where
    go : (a b : Bool) → size n (λ v. S v || T v) ≤ size n S + size n T
        → one_if (a || b) + size n (λ v. S v || T v) ≤ one_if a + size n S + (one_if b + size n T)
    go true true h = omega arith
    go true false h = omega arith
    go false true h = omega arith
    go false false h = omega arith

pub size_among : (n : ℕ) (ws : List ℕ) → size n (among ws) ≤ length ws
size_among n [] = omega (arith, size_none n)
size_among n (w ∷ ws) = omega (arith, size_or n (alone w) (among ws), size_alone n w, size_among n ws)
