-- Reading one wire: what it carries is what its driver makes of what its operands carry.
use Rattle.std.proofs.Common.{◌≡◌, ℕ, zero, suc, ◌+◌, ◌<◌, List, [], ◌∷◌, ◌++◌, map, length, get_or, take, sym, refl, ap, ◌∙◌, add-zero, add-suc, suc-add, arith, length-append}
use mathlib.Core.Option.{some}
use lib.ListN.{get_elem?}
use lib.Seq.{get_or-append_seam}
use Rattle.std.specs.List.{AllByRecursion}
use Rattle.netlist.specs.Circuit.{Driver, fresh, stored, looked, Carrier, carried, carry, more_fresh, fresh_after}
use Rattle.isolation.proofs.Carries.{carry_before}

-- how many fresh wires the first j cells make
abbrev pub fresh_before : List Driver → ℕ → ℕ → ℕ
fresh_before cs j k = fresh_after (take j cs) k

pub fresh_before_all : (cs : List Driver) (j k : ℕ) → ((i : ℕ) → i < j → get_elem? cs i ≡ some fresh) → fresh_before cs j k ≡ k + j
fresh_before_all cs zero k h = sym (add-zero k)
fresh_before_all [] (suc j) k h = let e = h 0 (omega arith) in let z : ◌≡◌ {A = ℕ} 0 1 = cc in absurd (omega arith)
fresh_before_all (c ∷ cs) (suc j) k h =
    let e : c ≡ fresh = some_is (h 0 (omega arith)) in
    let r = fresh_before_all cs j (suc k) (λ i l. h (suc i) (omega arith)) in
    ap (λ d. fresh_before cs j (more_fresh d k)) e ∙ r ∙ suc-add k j ∙ sym (add-suc k j)
  where
    some_is : some c ≡ some fresh → c ≡ fresh
    some_is e = cc

abbrev pub AllBelow : ℕ → List ℕ → Type 0
AllBelow w os = AllByRecursion (λ o. o < w) os

module _ {V : Type 0} (A : Carrier V) where
  -- the value on a wire is what its cell makes of some list that has the values on all wires before it
  pub carry_at : (cs : List Driver) (k : ℕ) (before : List V) (j : ℕ) (c : Driver) → get_elem? cs j ≡ some c
      → (pre : List V) × (length pre ≡ length before + j)
      × ((i : ℕ) → i < length before + j → get_or (carry A cs k before) i A.none ≡ get_or pre i A.none)
      × (get_or (carry A cs k before) (length before + j) A.none ≡ carried A c (fresh_before cs j k) pre)
  carry_at [] k before j c e = let z : ◌≡◌ {A = ℕ} 0 1 = cc in absurd (omega arith)
  carry_at (b ∷ cs) k before zero c e =
      let same : b ≡ c = cc in
      let v = carried A b k before in
      let l = length-append before (v ∷ []) in (
        before,
        sym (add-zero (length before)),
        (λ i h. carry_before A (b ∷ cs) k before i A.none (omega arith)),
        ap (λ i. get_or (carry A (b ∷ cs) k before) i A.none) (add-zero (length before))
            ∙ carry_before A cs (more_fresh b k) (before ++ (v ∷ [])) (length before) A.none (omega arith)
            ∙ get_or-append_seam before v [] A.none
            ∙ ap (λ x. carried A x k before) same,
      )
  carry_at (b ∷ cs) k before (suc j) c e =
      let v = carried A b k before in
      let l = length-append before (v ∷ []) in
      let r = carry_at cs (more_fresh b k) (before ++ (v ∷ [])) j c e in
      let z : length (before ++ (v ∷ [])) + j ≡ length before + suc j = omega arith in
      (r.0, r.1 ∙ z, (λ i h. r.2 i (omega arith)), ap (λ i. get_or (carry A (b ∷ cs) k before) i A.none) (sym z) ∙ r.3)

  abbrev pub read : List V → ℕ → V
  read vs o = get_or vs o A.none

  same_reads : (us vs : List V) (w : ℕ) → ((i : ℕ) → i < w → read us i ≡ read vs i) → (os : List ℕ) → AllBelow w os
      → map (read us) os ≡ map (read vs) os
  same_reads us vs w h [] b = refl
  same_reads us vs w h (o ∷ os) b = let p = h o b.0 in let q = same_reads us vs w h os b.1 in cc

  module _ (cs : List Driver) (inputs : List V) (p : ℕ) (long : length inputs ≡ p) where
    abbrev pub all : List V
    all = carry A cs 0 inputs

    pub at_input : (i : ℕ) → i < p → read all i ≡ read inputs i
    at_input i h = carry_before A cs 0 inputs i A.none (omega arith)

    pub at_fresh : (w j : ℕ) → w ≡ p + j → get_elem? cs j ≡ some fresh → read all w ≡ A.source w (fresh_before cs j 0)
    at_fresh w j u e =
        let r = carry_at cs 0 inputs j fresh e in
        let z : length inputs + j ≡ w = omega arith in
        ap (read all) (sym z) ∙ r.3 ∙ ap (λ w. A.source w (fresh_before cs j 0)) (r.1 ∙ z)

    pub at_stored : (w j a : ℕ) → w ≡ p + j → get_elem? cs j ≡ some (stored a) → a < w → read all w ≡ A.store w (read all a)
    at_stored w j a u e b =
        let r = carry_at cs 0 inputs j (stored a) e in
        let z : length inputs + j ≡ w = omega arith in
        ap (read all) (sym z) ∙ r.3 ∙ ap (λ w. A.store w (read r.0 a)) (r.1 ∙ z) ∙ ap (A.store w) (sym (r.2 a (omega arith)))

    pub at_looked : (w j t : ℕ) (os : List ℕ) → w ≡ p + j → get_elem? cs j ≡ some (looked t os) → AllBelow w os → read all w ≡ A.look t (map (read all) os)
    at_looked w j t os u e b =
        let r = carry_at cs 0 inputs j (looked t os) e in
        let z : length inputs + j ≡ w = omega arith in
        ap (read all) (sym z) ∙ r.3 ∙ ap (A.look t) (sym (same_reads all r.0 w (λ i h. r.2 i (omega arith)) os b))
