-- The bytes of output pairs, and the pairs of bytes.
use Rattle.std.proofs.Common.{◌≡◌, ℕ, zero, suc, ◌+◌, ◌*◌, ◌<◌, List, [], ◌∷◌, length, get_or, refl, ap, ◌∙◌, arith}
use Rattle.blockfile.specs.Format.{pair_bytes}
use Rattle.blockfile.specs.Reading.{pair_at, pairs_from}
use Rattle.blockfile.specs.Laws.{Bytes}
use Rattle.blockfile.proofs.Numbers.{pair_of_two, high_of_pair, low_of_pair}

pub length_pairs : (ps : List (ℕ × ℕ)) → length (pair_bytes ps) ≡ 4 * length ps
length_pairs [] = refl
length_pairs (p ∷ ps) = omega (arith, length_pairs ps)

pub length_from : (m i : ℕ) (bs : List ℕ) → length (pairs_from m i bs) ≡ m
length_from zero i bs = refl
length_from (suc m) i bs = ap suc (length_from m (i + 4) bs)

-- one byte further on in a list that is one byte longer
from_cons : (m i j b : ℕ) (bs : List ℕ) → j ≡ suc i → pairs_from m j (b ∷ bs) ≡ pairs_from m i bs
from_cons zero i j b bs e = refl
from_cons (suc m) i j b bs e =
    let n : suc i + 2 ≡ suc (i + 2) = omega arith in
    rw (e, n) (ap (λ l. (pair_at bs i, pair_at bs (i + 2)) ∷ l) (from_cons m (i + 4) (suc i + 4) b bs (omega arith)))

pub from_four : (m a b c d : ℕ) (bs : List ℕ) → pairs_from m 4 (a ∷ b ∷ c ∷ d ∷ bs) ≡ pairs_from m 0 bs
from_four m a b c d bs = from_cons m 3 4 a (b ∷ c ∷ d ∷ bs) refl ∙ from_cons m 2 3 b (c ∷ d ∷ bs) refl ∙ from_cons m 1 2 c (d ∷ bs) refl ∙ from_cons m 0 1 d bs refl

pub pairs_back : (ps : List (ℕ × ℕ)) → pairs_from (length ps) 0 (pair_bytes ps) ≡ ps
pairs_back [] = refl
pairs_back (p ∷ ps) = rw (pair_of_two p.0, pair_of_two p.1) (ap (λ l. p ∷ l) (from_four (length ps) _ _ _ _ (pair_bytes ps) ∙ pairs_back ps))

pub pair_bytes_back : (m : ℕ) (bs : List ℕ) → length bs ≡ 4 * m → Bytes bs → pair_bytes (pairs_from m 0 bs) ≡ bs
pair_bytes_back zero [] e small = refl
pair_bytes_back zero (a ∷ bs) e small = absurd (omega arith)
pair_bytes_back (suc m) [] e small = absurd (omega arith)
pair_bytes_back (suc m) (a ∷ []) e small = absurd (omega arith)
pair_bytes_back (suc m) (a ∷ b ∷ []) e small = absurd (omega arith)
pair_bytes_back (suc m) (a ∷ b ∷ c ∷ []) e small = absurd (omega arith)
pair_bytes_back (suc m) (a ∷ b ∷ c ∷ d ∷ bs) e small =
    let b-low : b < 256 = small 1 (omega arith) in
    let d-low : d < 256 = small 3 (omega arith) in
    let rest : Bytes bs = λ k h. small (suc (suc (suc (suc k)))) (omega arith) in
    rw (high_of_pair a b b-low, low_of_pair a b b-low, high_of_pair c d d-low, low_of_pair c d d-low)
    (ap (λ l. a ∷ b ∷ c ∷ d ∷ l) (ap pair_bytes (from_four m a b c d bs) ∙ pair_bytes_back m bs (omega arith) rest))

pub get_or_from : (m i c : ℕ) (bs : List ℕ) → c < m → get_or (pairs_from m i bs) c (0, 0) ≡ (pair_at bs (i + 4 * c), pair_at bs (i + 4 * c + 2))
get_or_from zero i c bs h = absurd (omega arith)
get_or_from (suc m) i zero bs h = let e : i ≡ i + 0 = omega arith in ap (λ k. (pair_at bs k, pair_at bs (k + 2))) e
get_or_from (suc m) i (suc c) bs h =
    let e : i + 4 + 4 * c ≡ i + 4 * suc c = omega arith in get_or_from m (i + 4) c bs (omega arith) ∙ ap (λ k. (pair_at bs k, pair_at bs (k + 2))) e
