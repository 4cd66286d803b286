-- Numbers in two bytes.
use Rattle.std.proofs.Common.{◌≡◌, ℕ, ◌+◌, ◌*◌, ◌/◌, ◌%◌, ◌<◌, [], ◌∷◌, ap, ◌∙◌, mul_comm, arith}
use Rattle.std.proofs.lemmas.Nat.{div-add-mod', div-mul-add, mod-mul-add}
use Rattle.blockfile.specs.Format.{two}

pub pair_of_two : (x : ℕ) → 256 * (x / 256) + x % 256 ≡ x
pair_of_two x = omega (arith, div-add-mod' x 256)

pub high_of_pair : (hi lo : ℕ) → lo < 256 → (256 * hi + lo) / 256 ≡ hi
high_of_pair hi lo h = ap (λ n. (n + lo) / 256) (mul_comm 256 hi) ∙ div-mul-add hi 256 lo h

pub low_of_pair : (hi lo : ℕ) → lo < 256 → (256 * hi + lo) % 256 ≡ lo
low_of_pair hi lo h = ap (λ n. (n + lo) % 256) (mul_comm 256 hi) ∙ mod-mul-add hi 256 lo h

pub two_of_pair : (hi lo : ℕ) → lo < 256 → two (256 * hi + lo) ≡ hi ∷ lo ∷ []
two_of_pair hi lo h = rw (high_of_pair hi lo h, low_of_pair hi lo h)

pub two_of_bytes : (x : ℕ) → x < 65536 → x / 256 % 256 ∷ x % 256 ∷ [] ≡ two x
two_of_bytes x h = let e : x / 256 % 256 ≡ x / 256 = omega arith in ap (λ y. y ∷ x % 256 ∷ []) e
