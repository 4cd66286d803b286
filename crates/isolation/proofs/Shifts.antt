-- A shift of the masks changes no sum, so a set whose pattern a shift of the masks restores is clean.
use Rattle.std.proofs.Common.{◌≡◌, ℕ, Bool, true, false, List, [], ◌∷◌, refl, ap, ◌∙◌, subst, arith}
use Rattle.netlist.specs.Circuit.{mask_count, settled}
use Rattle.isolation.specs.Sums.{sum}
use Rattle.isolation.specs.Patterns.{pattern, one_if, same, shares, xors}
use Rattle.isolation.specs.Shifts.{Restores}
use Rattle.isolation.specs.Theorems.{ShiftKeepsSum, RestoredIsClean}
use Rattle.isolation.proofs.Sums.{sum_ext}

pub sum_shift : ShiftKeepsSum
sum_shift [] f = refl
sum_shift (true ∷ v) f =
    let l = sum_shift v (λ m. f (true ∷ m)) in
    let r = sum_shift v (λ m. f (false ∷ m)) in
    omega arith
sum_shift (false ∷ v) f =
    let l = sum_shift v (λ m. f (false ∷ m)) in
    let r = sum_shift v (λ m. f (true ∷ m)) in
    omega arith

pub clean_by_shift : RestoredIsClean
clean_by_shift c S d shift x y z q hx hy hz = turned (shift x y z hx hy hz)
  where
    f : List Bool → ℕ
    f m = one_if (same (pattern S (settled c (shares d x z) m)) q)

    turned : (v : List Bool) × Restores c S d x y z v → sum (mask_count c) (λ m. one_if (same (pattern S (settled c (shares d x y) m)) q)) ≡ sum (mask_count c) f
    turned r =
        let v = r.0 in
        sum_ext (mask_count c) (λ m. one_if (same (pattern S (settled c (shares d x y) m)) q)) (λ m. f (xors m v)) (λ m h. ap (λ p. one_if (same p q)) (r.1.1 m h))
        ∙ (let P : ℕ → Type 0 = λ n. sum n (λ m. f (xors m v)) ≡ sum n f in subst P r.1.0 (sum_shift v f))
