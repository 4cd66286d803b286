-- One bit of each of several groups of masks, at one place in each, is spread alike whichever the place.
use Rattle.std.proofs.Common.{◌≡◌, ℕ, zero, suc, ◌+◌, ◌*◌, ◌<◌, ◌≤◌, Bool, true, false, List, ◌∷◌, ◌++◌, map, length, get_or, sym, refl, ap, ◌∙◌, arith, get_or-append-add}
use lib.ListN.{get_or-append}
use Rattle.std.specs.List.{range_with_len}
use Rattle.std.proofs.lemmas.List.FromFn.{length-map-range_with_len, get_or-map-range_with_len, fill_by_all}
use Rattle.isolation.specs.Sums.{sum}
use Rattle.isolation.proofs.Sums.{sum_ext, sum_append}

-- bit k of the lists of suc w bits is 0 in half of them and 1 in the others
sum_bit : (w k : ℕ) (g : Bool → ℕ) → k ≤ w → sum (suc w) (λ a. g (get_or a k false)) ≡ sum w (λ a. g false) + sum w (λ a. g true)
sum_bit w zero g h = refl
sum_bit zero (suc k) g h = absurd (omega arith)
sum_bit (suc w) (suc k) g h = let r = sum_bit w k g (omega arith) in omega arith

sum_any_bit : (w k j : ℕ) (g : Bool → ℕ) → k < w → j < w → sum w (λ a. g (get_or a k false)) ≡ sum w (λ a. g (get_or a j false))
sum_any_bit zero k j g h l = absurd (omega arith)
sum_any_bit (suc w) k j g h l = sum_bit w k g (omega arith) ∙ sym (sum_bit w j g (omega arith))

-- bit k of each of r groups of w bits
abbrev pub selected : ℕ → ℕ → ℕ → List Bool → List Bool
selected r w k a = map (λ i. get_or a (i * w + k) false) (range_with_len 0 r)

selected_more : (r w k : ℕ) (a b : List Bool) → length a ≡ w → k < w → selected (suc r) w k (a ++ b) ≡ get_or a k false ∷ selected r w k b
selected_more r w k a b l h = let p = here in let q = tail in cc
  where
    f : ℕ → Bool
    f i = get_or (a ++ b) (i * w + k) false

    here : f 0 ≡ get_or a k false
    here = let z : 0 * w + k ≡ k = omega arith in ap (λ i. get_or (a ++ b) i false) z ∙ get_or-append a b false k (omega arith)

    tail : map f (range_with_len 1 r) ≡ selected r w k b
    tail =
        fill_by_all (λ i. get_or b (i * w + k) false) (map f (range_with_len 1 r)) r false (length-map-range_with_len f 1 r)
        (λ i e.
        let y : suc i * w + k ≡ length a + (i * w + k) = omega arith in
        get_or-map-range_with_len f 1 r i (suc i) false e (omega arith) ∙ ap (λ j. get_or (a ++ b) j false) y ∙ get_or-append-add a b (i * w + k) false)

pub sum_selected : (r w k j : ℕ) (f : List Bool → ℕ) → k < w → j < w → sum (r * w) (λ a. f (selected r w k a)) ≡ sum (r * w) (λ a. f (selected r w j a))
sum_selected zero w k j f h l = refl
sum_selected (suc r) w k j f h l =
    apart k h
    ∙ sum_ext w (λ a. sum (r * w) (λ b. f (get_or a k false ∷ selected r w k b))) (λ a. sum (r * w) (λ b. f (get_or a k false ∷ selected r w j b)))
    (λ a e. sum_selected r w k j (λ q. f (get_or a k false ∷ q)) h l)
    ∙ sum_any_bit w k j (λ x. sum (r * w) (λ b. f (x ∷ selected r w j b))) h l
    ∙ sym (apart j l)
  where
    z : suc r * w ≡ w + r * w
    z = omega arith

    -- the first group by itself
    apart : (k : ℕ) → k < w → sum (suc r * w) (λ a. f (selected (suc r) w k a)) ≡ sum w (λ a. sum (r * w) (λ b. f (get_or a k false ∷ selected r w k b)))
    apart k h =
        ap (λ n. sum n (λ a. f (selected (suc r) w k a))) z
        ∙ sum_append w (r * w) (λ a. f (selected (suc r) w k a))
        ∙ sum_ext w (λ a. sum (r * w) (λ b. f (selected (suc r) w k (a ++ b)))) (λ a. sum (r * w) (λ b. f (get_or a k false ∷ selected r w k b)))
        (λ a e. sum_ext (r * w) (λ b. f (selected (suc r) w k (a ++ b))) (λ b. f (get_or a k false ∷ selected r w k b)) (λ b e'. ap f (selected_more r w k a b e h)))
