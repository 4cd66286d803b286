-- The test by all settings of shares and masks says just whether a set is clean.
use Rattle.std.proofs.Common.{◌≡◌, ℕ, zero, suc, Bool, true, false, ◌&&◌, eqb, ◌⊎◌, List, [], ◌∷◌, length, replicate, sym, refl, ap, ◌∙◌, subst, inl, inr, arith}
use lib.ListN.{length-replicate}
use Rattle.std.proofs.lemmas.Bool.{eqb-true, eq-eqb, and_parts, and_from}
use Rattle.netlist.specs.Circuit.{Circuit, Wires, mask_count, settled}
use Rattle.isolation.specs.Sums.{sum}
use Rattle.isolation.specs.Patterns.{pattern, one_if, same, shares, count}
use Rattle.isolation.specs.Clean.{Clean}
use Rattle.isolation.specs.Tests.{every, covered, tests_clean}
use Rattle.isolation.proofs.Patterns.{same_eq}

pub every_of : (k : ℕ) (f : List Bool → Bool) → every k f ≡ true → (m : List Bool) → length m ≡ k → f m ≡ true
every_of zero f h [] l = h
every_of zero f h (b ∷ m) l = absurd (omega arith)
every_of (suc k) f h [] l = absurd (omega arith)
every_of (suc k) f h (false ∷ m) l = every_of k (λ m. f (false ∷ m)) (and_parts (every k (λ m. f (false ∷ m))) (every k (λ m. f (true ∷ m))) h).0 m (omega arith)
every_of (suc k) f h (true ∷ m) l = every_of k (λ m. f (true ∷ m)) (and_parts (every k (λ m. f (false ∷ m))) (every k (λ m. f (true ∷ m))) h).1 m (omega arith)

pub every_from : (k : ℕ) (f : List Bool → Bool) → ((m : List Bool) → length m ≡ k → f m ≡ true) → every k f ≡ true
every_from zero f h = h [] refl
every_from (suc k) f h =
    and_from (every k (λ m. f (false ∷ m))) (every k (λ m. f (true ∷ m)))
    (every_from k (λ m. f (false ∷ m)) (λ m l. h (false ∷ m) (ap suc l)))
    (every_from k (λ m. f (true ∷ m)) (λ m l. h (true ∷ m) (ap suc l)))

-- a test that no list of k bits passes, or a list that passes
pub none_or_one : (k : ℕ) (f : List Bool → Bool) → (sum k (λ m. one_if (f m)) ≡ 0) ⊎ ((m : List Bool) × (length m ≡ k) × (f m ≡ true))
none_or_one zero f = case (f []) refl
  where
    case : (b : Bool) → f [] ≡ b → (one_if (f []) ≡ 0) ⊎ ((m : List Bool) × (length m ≡ 0) × (f m ≡ true))
    case true e = inr ([], refl, e)
    case false e = inl (ap one_if e)
none_or_one (suc k) f =
    elim (none_or_one k (λ m. f (false ∷ m))) [
      | inr p ↦ inr (false ∷ p.0, ap suc p.1, p.2)
      | inl a ↦ elim (none_or_one k (λ m. f (true ∷ m))) [ inr p ↦ inr (true ∷ p.0, ap suc p.1, p.2) | inl b ↦ inl (omega arith) ]
    ]

module _ (c : Circuit) (S : Wires) where
  abbrev at : List Bool → List Bool → List Bool
  at u m = pattern S (settled c u m)

  covered_count : (u v : List Bool) → covered c S u v ≡ true → (q : List Bool) → (count c S u q ≡ 0) ⊎ (count c S u q ≡ count c S v q)
  covered_count u v h q =
      elim (none_or_one (mask_count c) (λ m. same (at u m) q)) [
        | inl e ↦ inl e
        | inr p ↦ inr
            (let t = every_of (mask_count c) (λ m. eqb (count c S u (at u m)) (count c S v (at u m))) h p.0 p.1 in
            let P : List Bool → Type 0 = λ q. count c S u q ≡ count c S v q in
            subst P (same_eq (at u p.0) q p.2) (eqb-true (count c S u (at u p.0)) (count c S v (at u p.0)) t))
      ]

  covered_both : (u v : List Bool) → covered c S u v ≡ true → covered c S v u ≡ true → (q : List Bool) → count c S u q ≡ count c S v q
  covered_both u v h k q = grind (arith, covered_count u v h q, covered_count v u k q)

  module _ (d : Bool) where
    abbrev zeros : List Bool
    zeros = replicate c.inputs false

    abbrev both : List Bool → List Bool → Bool
    both x y = covered c S (shares d x y) (shares d x zeros) && covered c S (shares d x zeros) (shares d x y)

    pub test_clean : tests_clean c S d ≡ true → Clean c S d
    test_clean h x y z q hx hy hz = to y hy ∙ sym (to z hz)
      where
        to : (y : List Bool) → length y ≡ c.inputs → count c S (shares d x y) q ≡ count c S (shares d x zeros) q
        to y hy =
            let a = every_of c.inputs (both x) (every_of c.inputs (λ x. every c.inputs (both x)) h x hx) y hy in
            let p = and_parts (covered c S (shares d x y) (shares d x zeros)) (covered c S (shares d x zeros) (shares d x y)) a in
            covered_both (shares d x y) (shares d x zeros) p.0 p.1 q

    pub clean_test : Clean c S d → tests_clean c S d ≡ true
    clean_test h =
        every_from c.inputs (λ x. every c.inputs (both x))
        (λ x hx. every_from c.inputs (both x)
        (λ y hy. and_from (covered c S (shares d x y) (shares d x zeros)) (covered c S (shares d x zeros) (shares d x y))
        (half x y zeros hx hy (length-replicate c.inputs false)) (half x zeros y hx (length-replicate c.inputs false) hy)))
      where
        half : (x y z : List Bool) → length x ≡ c.inputs → length y ≡ c.inputs → length z ≡ c.inputs → covered c S (shares d x y) (shares d x z) ≡ true
        half x y z hx hy hz =
            every_from (mask_count c) (λ m. eqb (count c S (shares d x y) (at (shares d x y) m)) (count c S (shares d x z) (at (shares d x y) m)))
            (λ m hm. eq-eqb (count c S (shares d x y) (at (shares d x y) m)) (count c S (shares d x z) (at (shares d x y) m)) (h x y z (at (shares d x y) m) hx hy hz))
