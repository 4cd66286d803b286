-- Bits of numbers, lane by lane.
use Rattle.std.proofs.Common.{◌≡◌, ℕ, zero, suc, ◌+◌, ◌-◌, ◌*◌, ◌/◌, ◌%◌, ◌^◌, ◌<◌, min, Bool, true, false, cond, eqb, List, [], ◌∷◌, map, sym, refl, ap, ◌∙◌, ⊎_elim, add_comm, arith}
use native.Mathlib.Nat.{pow-succ'}
use lib.Bits.{bit_and, bit_xor}
use Rattle.std.specs.Int.{bit_at}
use Rattle.std.proofs.lemmas.Nat.{shr_high, shr-shr}
use Rattle.std.proofs.lemmas.Nat.Bits.{bit_at_lowest, bit_at_and, bit_at_xor, bit_at_ones, bit_at-lt, bit_at_cat_low, same_from_bits_below}
use Rattle.std.proofs.lemmas.Bool.{cases_lt}
use Rattle.std.proofs.lemmas.Grind.{common_steps}
use Rattle.netlist.specs.Circuit.{bit_of, number, bit}
use Rattle.value.specs.Values.{lane, lanes}

-- a bit that is tested is itself
pub bit_of_eqb : (b : ℕ) → b < 2 → bit_of (eqb b 1) ≡ b
bit_of_eqb b l = grind (arith, common_steps)

pub lane_digit : (j x : ℕ) → bit_of (lane j x) ≡ bit_at x j
lane_digit j x = bit_of_eqb (bit_at x j) (bit_at-lt x j)

choose : (x l h : ℕ) → x < 2 → l < 2 → h < 2 → eqb ((l + min x ((l + h) % 2)) % 2) 1 ≡ cond (eqb x 1) (eqb h 1) (eqb l 1)
choose x l h p q r = grind (arith, common_steps)

pub pick_lane : (j x lo hi : ℕ) → lane j (bit_xor lo (bit_and x (bit_xor lo hi))) ≡ cond (lane j x) (lane j hi) (lane j lo)
pick_lane j x lo hi =
    rw (bit_at_xor lo (bit_and x (bit_xor lo hi)) j, bit_at_and x (bit_xor lo hi) j, bit_at_xor lo hi j)
    (choose (bit_at x j) (bit_at lo j) (bit_at hi j) (bit_at-lt x j) (bit_at-lt lo j) (bit_at-lt hi j))

both_bits : (a b : ℕ) → a < 2 → b < 2 → eqb (min a b) 1 ≡ bit 8 (number (eqb a 1 ∷ eqb b 1 ∷ []))
both_bits a b p q = grind (arith, common_steps)

pub and_lane : (j x y : ℕ) → lane j (bit_and x y) ≡ bit 8 (number (lane j x ∷ lane j y ∷ []))
and_lane j x y = rw (bit_at_and x y j) (both_bits (bit_at x j) (bit_at y j) (bit_at-lt x j) (bit_at-lt y j))

differing_bits : (a b : ℕ) → a < 2 → b < 2 → eqb ((a + b) % 2) 1 ≡ bit 6 (number (eqb a 1 ∷ eqb b 1 ∷ []))
differing_bits a b p q = grind (arith, common_steps)

pub xor_lane : (j x y : ℕ) → lane j (bit_xor x y) ≡ bit 6 (number (lane j x ∷ lane j y ∷ []))
xor_lane j x y = rw (bit_at_xor x y j) (differing_bits (bit_at x j) (bit_at y j) (bit_at-lt x j) (bit_at-lt y j))

-- each lane of the word of 64 ones
pub ones_lane : (j : ℕ) → j < 64 → lane j 18446744073709551615 ≡ true
ones_lane j l = ap (λ d. eqb d 1) (bit_at_ones 64 j l)

other_bit : (a : ℕ) → a < 2 → eqb ((a + 1) % 2) 1 ≡ bit 1 (number (eqb a 1 ∷ []))
other_bit a p = grind (arith, common_steps)

pub not_lane : (j x : ℕ) → j < 64 → lane j (bit_xor x 18446744073709551615) ≡ bit 1 (number (lane j x ∷ []))
not_lane j x l = rw (bit_at_xor x 18446744073709551615 j, bit_at_ones 64 j l) (other_bit (bit_at x j) (bit_at-lt x j))

-- a choice by b between a table and the table from its bit s on
pub bit_shift : (t i s e : ℕ) (b : Bool) → e ≡ i + bit_of b * s → cond b (bit (t / 2 ^ s) i) (bit t i) ≡ bit t e
bit_shift t i s e false h = let n : i ≡ e = omega arith in ap (bit t) n
bit_shift t i s e true h = let n : s + i ≡ e = omega arith in ap (λ k. eqb (k % 2) 1) (shr-shr t s i) ∙ ap (bit t) n

-- the two halves of a table, picked by one more operand
pub pick_half : (t i s e : ℕ) (b lo hi r : Bool) → r ≡ cond b hi lo → lo ≡ bit t i → hi ≡ bit (t / 2 ^ s) i → e ≡ i + bit_of b * s → r ≡ bit t e
pick_half t i s e b lo hi r p l h n = p ∙ ap (λ x. cond b hi x) l ∙ ap (λ x. cond b x (bit t i)) h ∙ bit_shift t i s e b n

bit_of_back : (b : Bool) → eqb (bit_of b % 2) 1 ≡ b
bit_of_back true = refl
bit_of_back false = refl

lanes_below : (n : ℕ) (f : ℕ → Bool) → lanes n f < 2 ^ n
unfolding lanes
lanes_below zero f = omega arith
lanes_below (suc n) f = one_more (f n) (lanes_below n f)
  where
    one_more : (b : Bool) → lanes n f < 2 ^ n → lanes n f + bit_of b * 2 ^ n < 2 ^ suc n
    one_more true h = omega (arith, pow-succ' 2 n)
    one_more false h = omega (arith, pow-succ' 2 n)

-- lane j of the number made of lanes is the j-th
pub lane_lanes : (n : ℕ) (f : ℕ → Bool) (j : ℕ) → j < n → lane j (lanes n f) ≡ f j
unfolding lanes
lane_lanes zero f j l = absurd (omega arith)
lane_lanes (suc n) f j l =
    rw (add_comm (lanes n f) (bit_of (f n) * 2 ^ n))
    (⊎_elim
    (λ lt. ap (λ d. eqb d 1) (bit_at_cat_low (bit_of (f n)) n (lanes n f) j lt) ∙ lane_lanes n f j lt)
    (λ ge. let e : j ≡ n = omega arith in rw e (ap (λ m. eqb (m % 2) 1) (shr_high (bit_of (f n)) n (lanes n f) (lanes_below n f)) ∙ bit_of_back (f n)))
    (cases_lt j n))

-- a number is known by its lanes
pub by_lanes : (n x : ℕ) (f : ℕ → Bool) → x < 2 ^ n → ((j : ℕ) → j < n → lane j x ≡ f j) → x ≡ lanes n f
by_lanes n x f l h =
    same_from_bits_below n x (lanes n f) l (lanes_below n f)
    (λ j k. sym (lane_digit j x) ∙ ap bit_of (h j k ∙ sym (lane_lanes n f j k)) ∙ lane_digit j (lanes n f))

-- one lane is a bit
pub lanes_one : (f : ℕ → Bool) → lanes 1 f ≡ bit_of (f 0)
unfolding lanes
lanes_one f = omega arith

pub lowest : (x : ℕ) → bit_of (lane 0 x) ≡ x % 2
lowest x = lane_digit 0 x ∙ bit_at_lowest x

pub lowest_not : (x : ℕ) → 1 - x % 2 ≡ lanes 1 (λ j. bit 1 (number (lane j x ∷ [])))
lowest_not x = rw (lanes_one (λ j. bit 1 (number (lane j x ∷ [])))) (inverted (lane 0 x) (lowest x))
  where
    inverted : (b : Bool) → bit_of b ≡ x % 2 → 1 - x % 2 ≡ bit_of (bit 1 (number (b ∷ [])))
    inverted true e = omega arith
    inverted false e = omega arith

-- a byte that is the lowest bit of another
pub lowest_lane : (x : ℕ) (f : ℕ → Bool) → lane 0 x ≡ f 0 → x % 2 ≡ lanes 1 f
lowest_lane x f e = sym (lowest x) ∙ ap bit_of e ∙ sym (lanes_one f)

-- a byte look-up by the number of its operands' lowest bits
pub lowest_look : (t i r : ℕ) (xs : List ℕ) → r ≡ bit_of (bit t i) → i ≡ number (map (lane 0) xs) → r ≡ lanes 1 (λ j. bit t (number (map (lane j) xs)))
lowest_look t i r xs e n = e ∙ ap (λ k. bit_of (bit t k)) n ∙ sym (lanes_one (λ j. bit t (number (map (lane j) xs))))
