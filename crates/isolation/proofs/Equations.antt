-- What the wires carry meets the equation of each driver, and nothing else does.
use Rattle.std.proofs.Common.{◌≡◌, ℕ, zero, suc, ◌+◌, ◌<◌, List, [], ◌∷◌, ◌++◌, length, get_or, take, drop, sym, refl, ap, ◌∙◌, append_assoc, append-nil, arith, length-drop, take-append-drop, length-take-le, get_or-drop, get_or-take, ext_get_or, take-add}
use mathlib.Core.Option.{some}
use lib.ListN.{get_elem?}
use Rattle.netlist.specs.Circuit.{Driver, fresh, Circuit, share_count, Carrier, carried, carry, more_fresh, fresh_after}
use Rattle.isolation.specs.Equations.{Meets}
use Rattle.isolation.specs.Theorems.{EquationsFixValues}
use Rattle.isolation.proofs.Carries.{length_carry}
use Rattle.isolation.proofs.Reading.{carry_at}

module _ {V : Type 0} (A : Carrier V) where
  carry_unique : (cs : List Driver) (k : ℕ) (before vs : List V) → length vs ≡ length cs
      → ((j : ℕ) → j < length cs → get_or vs j A.none ≡ carried A (get_or cs j fresh) (fresh_after (take j cs) k) (before ++ take j vs))
      → carry A cs k before ≡ before ++ vs
  carry_unique [] k before [] l h = sym (append-nil before)
  carry_unique [] k before (v ∷ vs) l h = absurd (omega arith)
  carry_unique (c ∷ cs) k before [] l h = absurd (omega arith)
  carry_unique (c ∷ cs) k before (v ∷ vs) l h =
      ap (λ x. carry A cs (more_fresh c k) (before ++ (x ∷ []))) (sym (h 0 (omega arith) ∙ ap (carried A c k) (append-nil before)))
      ∙ carry_unique cs (more_fresh c k) (before ++ (v ∷ [])) vs (omega arith)
      (λ j i. h (suc j) (omega arith) ∙ ap (carried A (get_or cs j fresh) (fresh_after (take j cs) (more_fresh c k))) (sym (append_assoc before (v ∷ []) (take j vs))))
      ∙ append_assoc before (v ∷ []) vs

pub meets_carry : {V : Type 0} → EquationsFixValues V
meets_carry A c vs l h =
    let n = share_count c in
    carry_unique A c.drivers 0 (take n vs) (drop n vs) (omega (arith, length-drop n vs))
    (λ j i. get_or-drop n vs j A.none ∙ h j i ∙ ap (carried A (get_or c.drivers j fresh) (fresh_after (take j c.drivers) 0)) (take-add n j vs))
    ∙ take-append-drop n vs

there : (cs : List Driver) (j : ℕ) → j < length cs → get_elem? cs j ≡ some (get_or cs j fresh)
there [] j h = absurd (omega arith)
there (c ∷ cs) zero h = refl
there (c ∷ cs) (suc j) h = there cs j (omega arith)

pub carry_meets : {V : Type 0} (A : Carrier V) (c : Circuit) (s : List V) → length s ≡ share_count c → Meets A c (carry A c.drivers 0 s)
carry_meets A c s l j h =
    let d = get_or c.drivers j fresh in
    let r = carry_at A c.drivers 0 s j d (there c.drivers j h) in
    let n : length s + j ≡ share_count c + j = omega arith in
    let long = length_carry A c.drivers 0 s in
    let m = length-take-le (share_count c + j) (carry A c.drivers 0 s) (omega arith) in
    let same : r.0 ≡ take (share_count c + j) (carry A c.drivers 0 s) =
    ext_get_or A.none r.0 (take (share_count c + j) (carry A c.drivers 0 s)) (omega (arith, r.1))
    (λ i b. sym (get_or-take (share_count c + j) (carry A c.drivers 0 s) i A.none (omega (arith, r.1)) ∙ r.2 i (omega (arith, r.1)))) in
    ap (λ i. get_or (carry A c.drivers 0 s) i A.none) (sym n) ∙ r.3 ∙ ap (carried A d (fresh_after (take j c.drivers) 0)) same
