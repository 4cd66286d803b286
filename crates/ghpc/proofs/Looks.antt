-- Share wires and tables as numbers, as they are worked out.
use Rattle.std.proofs.Common.{◌≡◌, ℕ, suc, ◌+◌, ◌*◌, ◌%◌, ◌^◌, ◌<◌, ◌≤◌, Bool, true, false, get_or, sym, refl, ap, ◌∙◌, subst, add-one, arith, pow_mono, zero}
use Rattle.std.specs.List.{sum}
use mir.Val.{bool_byte}
use Rattle.std.proofs.lemmas.List.{get_or_past}
use Rattle.std.proofs.lemmas.List.Sums.{sum_by_push}
use Rattle.std.proofs.lemmas.Nat.{shl_whole}
use Rattle.constructions.proofs.Numbers.{number_fits}
use Rattle.constructions.proofs.TableNumbers.{number_more}
use Rattle.netlist.specs.Circuit.{bit_of, number}
use Rattle.isolation.specs.Patterns.{share_wire}
use Rattle.constructions.specs.Gates.{each}
use Rattle.constructions.proofs.Rows.{length_each, get_or_each, each_last}

pub bit_byte : (b : Bool) → bool_byte b ≡ bit_of b
bit_byte true = refl
bit_byte false = refl

pub share_past : (n i : ℕ) (d : Bool) → n ≤ i → 0 ≡ get_or (each n (share_wire d)) i 0
share_past n i d h = sym (get_or_past (each n (share_wire d)) i 0 (omega (arith, length_each n (share_wire d))))

pub share_there : (n i : ℕ) (d : Bool) (r : ℕ) → i < n → r ≡ bool_byte d → 2 * i + r ≡ get_or (each n (share_wire d)) i 0
share_there n i d r h e = ap (λ b. 2 * i + b) (e ∙ bit_byte d) ∙ sym (get_or_each n (share_wire d) i 0 h)

pub bit_small : (b : Bool) → bit_of b < 2 ^ 1
bit_small true = omega arith
bit_small false = omega arith

-- a table with one bit more
pub bits_more : (k : ℕ) (f : ℕ → Bool) (bits b : ℕ) → k < 16 → bits ≡ number (each k f) → b ≡ bit_of (f k)
    → (bits + (b * 2 ^ k) % 65536 ≡ number (each (k + 1) f)) × (bits + (b * 2 ^ k) % 65536 < 65536)
bits_more k f bits b h e s =
    let whole : (b * 2 ^ k) % 2 ^ 16 ≡ b * 2 ^ k = shl_whole b 1 k 16 (subst (λ x. x < 2 ^ 1) (sym s) (bit_small (f k))) (omega arith) in
    let same : b * 2 ^ k ≡ bit_of (f k) * 2 ^ k = ap (λ x. x * 2 ^ k) s in
    let more = number_more k f in
    let next : number (each (k + 1) f) ≡ number (each (suc k) f) = ap (λ j. number (each j f)) (add-one k) in
    let below : number (each (suc k) f) < 2 ^ suc k = number_fits (suc k) (each (suc k) f) (length_each (suc k) f) in
    let few : suc k ≤ 16 = omega arith in
    let most : 2 ^ suc k ≤ 2 ^ 16 = pow_mono few in
    (omega arith, omega arith)

-- the same all at once: the bits of a table as they are added up
abbrev pub weight : (ℕ → Bool) → ℕ → ℕ
weight f a = (bool_byte (f a) * 2 ^ a) % 65536

pub sum_bits : (f : ℕ → Bool) (k : ℕ) → k ≤ 16 → sum (each k (weight f)) ≡ number (each k f)
sum_bits f zero h = refl
sum_bits f (suc k) h =
    let r = sum_bits f k (omega arith) in
    let e : sum (each (suc k) (weight f)) ≡ sum (each k (weight f)) + weight f k = ap sum (each_last k (weight f)) ∙ sum_by_push (λ x. x) (each k (weight f)) (weight f k) in
    let more = (bits_more k f (sum (each k (weight f))) (bool_byte (f k)) (omega arith) r (bit_byte (f k))).0 in
    let next : number (each (k + 1) f) ≡ number (each (suc k) f) = ap (λ j. number (each j f)) (add-one k) in
    omega arith

pub sum_small : (f : ℕ → Bool) (k : ℕ) → k ≤ 16 → sum (each k (weight f)) < 65536
sum_small f k h =
    let below : number (each k f) < 2 ^ k = number_fits k (each k f) (length_each k f) in
    let most : 2 ^ k ≤ 2 ^ 16 = pow_mono h in
    omega (arith, sum_bits f k h)
