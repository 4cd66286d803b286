-- Lists from functions of the index: where each part stands, and what holds of each.
use Rattle.std.proofs.Common.{◌≡◌, ℕ, zero, suc, ◌+◌, ◌*◌, ◌/◌, ◌%◌, ◌<◌, ◌≤◌, List, [], ◌∷◌, ◌++◌, map, length, get_or, sym, refl, ap, ◌∙◌, subst, ap₂, add-zero, mod-lt, div-lt_iff_lt-mul, div-add-mod', zero-add, arith, length-append}
use mathlib.Core.Path.{fun_ext}
use mathlib.Core.List.{map-map, map-append}
use mathlib.Core.Option.{none, some}
use lib.ListN.{get_elem?}
use Rattle.std.specs.List.{range_with_len, flat_map, AllByRecursion}
use Rattle.std.proofs.lemmas.List.{flat_map_more, map_push}
use Rattle.std.proofs.lemmas.List.FromFn.{length-range_with_len, get_or-range_with_len, length-map-range_with_len, get_or-map-range_with_len}
use Rattle.std.proofs.ByRecursion.{All-from_get_or, All-append}
use Rattle.constructions.specs.Gates.{each, rows}

module _ {A : Type 0} where
  pub at_left : (xs ys : List A) (j : ℕ) → j < length xs → get_elem? (xs ++ ys) j ≡ get_elem? xs j
  at_left [] ys j h = absurd (omega arith)
  at_left (x ∷ xs) ys zero h = refl
  at_left (x ∷ xs) ys (suc j) h = at_left xs ys j (omega arith)

  pub at_right : (xs ys : List A) (n j : ℕ) → length xs ≡ n → get_elem? (xs ++ ys) (n + j) ≡ get_elem? ys j
  at_right [] ys n j l = let z : n + j ≡ j = omega arith in ap (get_elem? ys) z
  at_right (x ∷ xs) ys zero j l = absurd (omega arith)
  at_right (x ∷ xs) ys (suc n) j l =
      let z : suc n + j ≡ suc (n + j) = omega arith in ap (get_elem? (x ∷ (xs ++ ys))) z ∙ at_right xs ys n j (omega arith)

  pub at_past : (xs : List A) (j : ℕ) → length xs ≤ j → get_elem? xs j ≡ none
  at_past [] j h = refl
  at_past (x ∷ xs) zero h = absurd (omega arith)
  at_past (x ∷ xs) (suc j) h = at_past xs j (omega arith)

  pub at_get_or : (xs : List A) (j : ℕ) (d : A) → j < length xs → get_elem? xs j ≡ some (get_or xs j d)
  at_get_or [] j d h = absurd (omega arith)
  at_get_or (x ∷ xs) zero d h = refl
  at_get_or (x ∷ xs) (suc j) d h = at_get_or xs j d (omega arith)

  pub get_or_some : (xs : List A) (j : ℕ) (x d : A) → get_elem? xs j ≡ some x → get_or xs j d ≡ x
  get_or_some [] j x d e = let z : ◌≡◌ {A = ℕ} 0 1 = cc in absurd (omega arith)
  get_or_some (y ∷ ys) zero x d e = cc
  get_or_some (y ∷ ys) (suc j) x d e = get_or_some ys j x d e

-- one each
module _ {A : Type 0} (k : ℕ) (f : ℕ → A) where
  pub length_each : length (each k f) ≡ k
  length_each = length-map-range_with_len f 0 k

  pub get_or_each : (i : ℕ) (d : A) → i < k → get_or (each k f) i d ≡ f i
  get_or_each i d h = get_or-map-range_with_len f 0 k i i d h (zero-add i)

  pub at_each : (i : ℕ) → i < k → get_elem? (each k f) i ≡ some (f i)
  at_each i h = at_get_or (each k f) i (f i) (omega (arith, length_each)) ∙ ap some (get_or_each i (f i) h)

  pub map_each : {B : Type 0} (h : A → B) → map h (each k f) ≡ each k (λ i. h (f i))
  map_each h = map-map h f (range_with_len 0 k)

-- rows
module _ {X A : Type 0} (f : X → List A) (w : ℕ) (long : (x : X) → length (f x) ≡ w) where
  length_joined : (xs : List X) → length (flat_map f xs) ≡ length xs * w
  length_joined [] = omega arith
  length_joined (x ∷ xs) = omega (arith, length-append (f x) (flat_map f xs), long x, length_joined xs)

  at_joined : (xs : List X) (i r : ℕ) (d : X) → i < length xs → r < w → get_elem? (flat_map f xs) (i * w + r) ≡ get_elem? (f (get_or xs i d)) r
  at_joined [] i r d h l = absurd (omega arith)
  at_joined (x ∷ xs) zero r d h l =
      let z : 0 * w + r ≡ r = omega arith in ap (get_elem? (flat_map f (x ∷ xs))) z ∙ at_left (f x) (flat_map f xs) r (omega (arith, long x))
  at_joined (x ∷ xs) (suc i) r d h l =
      let z : suc i * w + r ≡ w + (i * w + r) = omega arith in
      ap (get_elem? (flat_map f (x ∷ xs))) z ∙ at_right (f x) (flat_map f xs) w (i * w + r) (long x) ∙ at_joined xs i r d (omega arith) l

module _ {A : Type 0} (k w : ℕ) (f : ℕ → List A) (long : (i : ℕ) → length (f i) ≡ w) where
  pub length_rows : length (rows k f) ≡ k * w
  length_rows = length_joined f w long (range_with_len 0 k) ∙ ap (λ n. n * w) (length-range_with_len 0 k)

  pub at_row : (i r : ℕ) → i < k → r < w → get_elem? (rows k f) (i * w + r) ≡ get_elem? (f i) r
  at_row i r h l =
      at_joined f w long (range_with_len 0 k) i r 0 (omega (arith, length-range_with_len 0 k)) l
      ∙ ap (λ j. get_elem? (f j) r) (get_or-range_with_len 0 k i 0 h ∙ zero-add i)

counting_last : (a k : ℕ) → range_with_len a (suc k) ≡ range_with_len a k ++ ((a + k) ∷ [])
counting_last a zero = ap (λ n. n ∷ []) (sym (add-zero a))
counting_last a (suc k) =
    let z : a + 1 + k ≡ a + suc k = omega arith in ap (λ r. a ∷ r) (counting_last (a + 1) k ∙ ap (λ n. range_with_len (a + 1) k ++ (n ∷ [])) z)

pub each_last : {A : Type 0} (k : ℕ) (f : ℕ → A) → each (suc k) f ≡ each k f ++ (f k ∷ [])
each_last k f = ap (map f) (counting_last 0 k ∙ ap (λ n. range_with_len 0 k ++ (n ∷ [])) (zero-add k)) ∙ map_push f (range_with_len 0 k) k

pub rows_last : {A : Type 0} (k : ℕ) (f : ℕ → List A) → rows (suc k) f ≡ rows k f ++ f k
rows_last k f = ap (flat_map f) (counting_last 0 k ∙ ap (λ n. range_with_len 0 k ++ (n ∷ [])) (zero-add k)) ∙ sym (flat_map_more f [] (range_with_len 0 k) k)

-- a place in a grid of k rows of w
pub get_or_grid : {A : Type 0} (k w : ℕ) (f : ℕ → ℕ → A) (d : A) (c i : ℕ) → c < k → i < w → get_or (rows k (λ c. each w (f c))) (c * w + i) d ≡ f c i
get_or_grid k w f d c i h l =
    get_or_some (rows k (λ c. each w (f c))) (c * w + i) (f c i) d
    (at_row k w (λ c. each w (f c)) (λ c. length_each w (f c)) c i h l ∙ at_each w (f c) i l)

-- what holds of each
module _ {A : Type 0} (P : A → Type 0) where
  pub all_each : (k : ℕ) (f : ℕ → A) → ((i : ℕ) → i < k → P (f i)) → AllByRecursion P (each k f)
  all_each k f h = All-from_get_or P (each k f) (f 0) (λ i l. let m : i < k = omega (arith, length_each k f) in subst P (sym (get_or_each k f i (f 0) m)) (h i m))

  all_joined : {X : Type 0} (f : X → List A) (xs : List X) → AllByRecursion (λ x. AllByRecursion P (f x)) xs → AllByRecursion P (flat_map f xs)
  all_joined f [] h = tt
  all_joined f (x ∷ xs) h = All-append P (f x) (flat_map f xs) h.0 (all_joined f xs h.1)

pub all_counting : (P : ℕ → Type 0) (k : ℕ) → ((i : ℕ) → i < k → P i) → AllByRecursion P (range_with_len 0 k)
all_counting P k h =
    All-from_get_or P (range_with_len 0 k) 0
    (λ i l. let m : i < k = omega (arith, length-range_with_len 0 k) in subst P (sym (get_or-range_with_len 0 k i 0 m ∙ zero-add i)) (h i m))

pub all_rows : {A : Type 0} (P : A → Type 0) (k : ℕ) (f : ℕ → List A) → ((i : ℕ) → i < k → AllByRecursion P (f i)) → AllByRecursion P (rows k f)
all_rows P k f h = all_joined P f (range_with_len 0 k) (all_counting (λ i. AllByRecursion P (f i)) k h)

-- every place in k rows of w is a place in one of them
pub row_at : (k w j : ℕ) → 0 < w → j < k * w → (j / w < k) × (j % w < w) × (j / w * w + j % w ≡ j)
row_at k w j z h = ((div-lt_iff_lt-mul z).1 h, mod-lt j z, div-add-mod' j w)

-- maps
module _ {A B : Type 0} (h : A → B) where
  map_joined : {X : Type 0} (f : X → List A) (g : X → List B) → ((x : X) → map h (f x) ≡ g x) → (xs : List X) → map h (flat_map f xs) ≡ flat_map g xs
  map_joined f g e [] = refl
  map_joined f g e (x ∷ xs) = map-append h (f x) (flat_map f xs) ∙ ap₂ ◌++◌ (e x) (map_joined f g e xs)

  pub map_rows : (k : ℕ) (f : ℕ → List A) (g : ℕ → List B) → ((i : ℕ) → map h (f i) ≡ g i) → map h (rows k f) ≡ rows k g
  map_rows k f g e = map_joined f g e (range_with_len 0 k)

  pub map_ones : (k : ℕ) (f : ℕ → A) (g : ℕ → B) → ((i : ℕ) → h (f i) ≡ g i) → map h (each k f) ≡ each k g
  map_ones k f g e = map_each k f h ∙ ap (each k) (fun_ext e)
