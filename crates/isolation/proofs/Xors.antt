-- The XOR of two lists of bits.
use Rattle.std.proofs.Common.{◌≡◌, ℕ, zero, suc, Bool, true, false, List, [], ◌∷◌, ◌++◌, length, get_or, replicate, sym, refl, ap, ◌∙◌, arith}
use Rattle.isolation.specs.Patterns.{xor, xors}

xor_false : (a : Bool) → xor a false ≡ a
xor_false true = refl
xor_false false = refl

xor_comm : (a b : Bool) → xor a b ≡ xor b a
xor_comm true true = refl
xor_comm true false = refl
xor_comm false true = refl
xor_comm false false = refl

xor_twice : (a b : Bool) → xor a (xor a b) ≡ b
xor_twice true true = refl
xor_twice true false = refl
xor_twice false b = refl

pub get_or_xors : (xs ys : List Bool) (i : ℕ) → get_or (xors xs ys) i false ≡ xor (get_or xs i false) (get_or ys i false)
get_or_xors [] ys i = refl
get_or_xors (x ∷ xs) [] zero = sym (xor_false x)
get_or_xors (x ∷ xs) [] (suc i) = sym (xor_false (get_or xs i false))
get_or_xors (x ∷ xs) (y ∷ ys) zero = refl
get_or_xors (x ∷ xs) (y ∷ ys) (suc i) = get_or_xors xs ys i

pub length_xors : (xs ys : List Bool) (n : ℕ) → length xs ≡ n → length ys ≡ n → length (xors xs ys) ≡ n
length_xors [] ys n h k = k
length_xors (x ∷ xs) [] n h k = h
length_xors (x ∷ xs) (y ∷ ys) zero h k = absurd (omega arith)
length_xors (x ∷ xs) (y ∷ ys) (suc n) h k = ap suc (length_xors xs ys n (omega arith) (omega arith))

xors_comm : (xs ys : List Bool) → xors xs ys ≡ xors ys xs
xors_comm [] [] = refl
xors_comm [] (y ∷ ys) = refl
xors_comm (x ∷ xs) [] = refl
xors_comm (x ∷ xs) (y ∷ ys) = let e = xor_comm x y in let r = xors_comm xs ys in cc

xors_twice : (xs ys : List Bool) → length xs ≡ length ys → xors xs (xors xs ys) ≡ ys
xors_twice [] ys h = refl
xors_twice (x ∷ xs) [] h = absurd (omega arith)
xors_twice (x ∷ xs) (y ∷ ys) h = let e = xor_twice x y in let r = xors_twice xs ys (omega arith) in cc

pub xors_append : (a b c d : List Bool) → length a ≡ length c → xors (a ++ b) (c ++ d) ≡ xors a c ++ xors b d
xors_append [] b [] d h = refl
xors_append [] b (z ∷ c) d h = absurd (omega arith)
xors_append (x ∷ a) b [] d h = absurd (omega arith)
xors_append (x ∷ a) b (z ∷ c) d h = ap (λ r. xor x z ∷ r) (xors_append a b c d (omega arith))

pub xors_none : (k : ℕ) (m : List Bool) → length m ≡ k → xors m (replicate k false) ≡ m
xors_none zero [] h = refl
xors_none zero (b ∷ m) h = absurd (omega arith)
xors_none (suc k) [] h = absurd (omega arith)
xors_none (suc k) (b ∷ m) h = let e = xor_false b in let r = xors_none k m (omega arith) in cc

pub xors_back : (xs ys : List Bool) → length xs ≡ length ys → xors xs (xors ys xs) ≡ ys
xors_back xs ys h = ap (xors xs) (xors_comm ys xs) ∙ xors_twice xs ys h
