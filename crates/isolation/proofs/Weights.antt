-- Where every list arises equally often, every weighing of lists comes to the same sum.
use Rattle.std.proofs.Common.{◌≡◌, ℕ, ◌*◌, Bool, true, false, List, [], ◌∷◌, length, sym, ap, ◌∙◌, mul-zero, mul-one, arith}
use Rattle.isolation.specs.Sums.{sum}
use Rattle.isolation.specs.Patterns.{one_if, same}
use Rattle.isolation.proofs.Sums.{sum_ext, sum_zero, sum_scale, swap_sums}

nothing : (k : ℕ) (F : List Bool → ℕ) → sum k (λ q. F q * 0) ≡ 0
nothing k F = sum_ext k (λ q. F q * 0) (λ q. 0) (λ q h. mul-zero (F q)) ∙ sum_zero k

-- one list's own weight, picked out of all lists of its length
pick : (p : List Bool) (F : List Bool → ℕ) → sum (length p) (λ q. F q * one_if (same p q)) ≡ F p
pick [] F = mul-one (F [])
pick (true ∷ p) F =
    let l = nothing (length p) (λ q. F (false ∷ q)) in
    let r = pick p (λ q. F (true ∷ q)) in
    omega arith
pick (false ∷ p) F =
    let l = nothing (length p) (λ q. F (true ∷ q)) in
    let r = pick p (λ q. F (false ∷ q)) in
    omega arith

-- the weight of all lists g m, counted list by list
by_list : (k n : ℕ) (g : List Bool → List Bool) → ((m : List Bool) → length m ≡ k → length (g m) ≡ n)
    → (F : List Bool → ℕ) → sum k (λ m. F (g m)) ≡ sum n (λ q. F q * sum k (λ m. one_if (same (g m) q)))
by_list k n g long F =
    sum_ext k (λ m. F (g m)) (λ m. sum n (λ q. F q * one_if (same (g m) q)))
    (λ m h. sym (ap (λ j. sum j (λ q. F q * one_if (same (g m) q))) (sym (long m h)) ∙ pick (g m) F))
    ∙ swap_sums k n (λ m q. F q * one_if (same (g m) q))
    ∙ sum_ext n (λ q. sum k (λ m. F q * one_if (same (g m) q))) (λ q. F q * sum k (λ m. one_if (same (g m) q)))
    (λ q h. sum_scale k (F q) (λ m. one_if (same (g m) q)))

-- equal counts of each list give equal sums of each weighing
pub equal_counts_weigh : (k n : ℕ) (g h : List Bool → List Bool)
    → ((m : List Bool) → length m ≡ k → length (g m) ≡ n) → ((m : List Bool) → length m ≡ k → length (h m) ≡ n)
    → ((q : List Bool) → sum k (λ m. one_if (same (g m) q)) ≡ sum k (λ m. one_if (same (h m) q)))
    → (F : List Bool → ℕ) → sum k (λ m. F (g m)) ≡ sum k (λ m. F (h m))
equal_counts_weigh k n g h lg lh eq F =
    by_list k n g lg F
    ∙ sum_ext n (λ q. F q * sum k (λ m. one_if (same (g m) q))) (λ q. F q * sum k (λ m. one_if (same (h m) q))) (λ q e. ap (λ c. F q * c) (eq q))
    ∙ sym (by_list k n h lh F)
