-- Sums over all lists of bits: equal terms, sums of sums, and one sum inside another.
use Rattle.std.proofs.Common.{◌≡◌, ℕ, zero, suc, ◌+◌, ◌*◌, ◌<◌, Bool, true, false, List, [], ◌∷◌, ◌++◌, length, refl, ap, ◌∙◌, suc-add, zero-add, mul-add, arith}
use Rattle.isolation.specs.Sums.{sum}

pub sum_ext : (k : ℕ) (f g : List Bool → ℕ) → ((m : List Bool) → length m ≡ k → f m ≡ g m) → sum k f ≡ sum k g
sum_ext zero f g e = e [] refl
sum_ext (suc k) f g e =
    let l = sum_ext k (λ m. f (false ∷ m)) (λ m. g (false ∷ m)) (λ m h. e (false ∷ m) (ap suc h)) in
    let r = sum_ext k (λ m. f (true ∷ m)) (λ m. g (true ∷ m)) (λ m h. e (true ∷ m) (ap suc h)) in
    omega arith

sum_plus : (k : ℕ) (f g : List Bool → ℕ) → sum k (λ m. f m + g m) ≡ sum k f + sum k g
sum_plus zero f g = refl
sum_plus (suc k) f g =
    let l = sum_plus k (λ m. f (false ∷ m)) (λ m. g (false ∷ m)) in
    let r = sum_plus k (λ m. f (true ∷ m)) (λ m. g (true ∷ m)) in
    omega arith

pub sum_scale : (k c : ℕ) (f : List Bool → ℕ) → sum k (λ m. c * f m) ≡ c * sum k f
sum_scale zero c f = refl
sum_scale (suc k) c f =
    let l = sum_scale k c (λ m. f (false ∷ m)) in
    let r = sum_scale k c (λ m. f (true ∷ m)) in
    omega (arith, mul-add c (sum k (λ m. f (false ∷ m))) (sum k (λ m. f (true ∷ m))))

pub sum_zero : (k : ℕ) → sum k (λ m. 0) ≡ 0
sum_zero zero = refl
sum_zero (suc k) = let z = sum_zero k in omega arith

pub sum_ones : (k : ℕ) → 0 < sum k (λ m. 1)
sum_ones zero = omega arith
sum_ones (suc k) = let r = sum_ones k in omega arith

-- a sum over lists of a + b bits, by their first a bits and the others
pub sum_append : (a b : ℕ) (f : List Bool → ℕ) → sum (a + b) f ≡ sum a (λ m. sum b (λ q. f (m ++ q)))
sum_append zero b f = ap (λ n. sum n f) (zero-add b)
sum_append (suc a) b f =
    let l = sum_append a b (λ m. f (false ∷ m)) in
    let r = sum_append a b (λ m. f (true ∷ m)) in
    ap (λ n. sum n f) (suc-add a b) ∙ omega arith

pub swap_sums : (a b : ℕ) (h : List Bool → List Bool → ℕ) → sum a (λ m. sum b (λ q. h m q)) ≡ sum b (λ q. sum a (λ m. h m q))
swap_sums zero b h = refl
swap_sums (suc a) b h =
    let l = swap_sums a b (λ m q. h (false ∷ m) q) in
    let r = swap_sums a b (λ m q. h (true ∷ m) q) in
    let p = sum_plus b (λ q. sum a (λ m. h (false ∷ m) q)) (λ q. sum a (λ m. h (true ∷ m) q)) in
    omega arith
