-- Tables as numbers, one bit more at a time, and the table with one bit set.
use Rattle.std.proofs.Common.{◌≡◌, ℕ, zero, suc, ◌+◌, ◌*◌, ◌^◌, ◌<◌, ◌≤◌, Bool, eqb, List, [], ◌∷◌, ◌++◌, length, refl, ap, ◌∙◌, mul_left_comm, arith}
use native.Mathlib.Nat.{pow-succ'}
use native.Mathlib.Decide.{ℕ_discrete}
use Rattle.std.proofs.lemmas.Bool.{eq-eqb, ne_eqb}
use Rattle.netlist.specs.Circuit.{bit_of, number}
use Rattle.block.specs.Blocks.{Table}
use Rattle.constructions.specs.Gates.{each, argument_count, table_of}
use Rattle.constructions.proofs.Rows.{length_each, each_last}

number_last : (l : List Bool) (b : Bool) → number (l ++ (b ∷ [])) ≡ number l + bit_of b * 2 ^ length l
number_last [] b = omega arith
number_last (a ∷ l) b =
    let r = number_last l b in
    let e : bit_of b * 2 ^ suc (length l) ≡ 2 * (bit_of b * 2 ^ length l) = ap (λ x. bit_of b * x) (pow-succ' 2 (length l)) ∙ mul_left_comm (bit_of b) 2 (2 ^ length l) in
    omega arith

pub number_more : (k : ℕ) (f : ℕ → Bool) → number (each (suc k) f) ≡ number (each k f) + bit_of (f k) * 2 ^ k
number_more k f =
    ap number (each_last k f) ∙ number_last (each k f) (f k) ∙ ap (λ j. number (each k f) + bit_of (f k) * 2 ^ j) (length_each k f)

no_bit : (k i : ℕ) → k ≤ i → number (each k (λ a. eqb a i)) ≡ 0
no_bit zero i h = refl
no_bit (suc k) i h =
    let e = ap (λ b. bit_of b * 2 ^ k) (ne_eqb k i (λ e. omega arith)) in
    omega (arith, number_more k (λ a. eqb a i), no_bit k i (omega arith))

one_bit : (k i : ℕ) → i < k → number (each k (λ a. eqb a i)) ≡ 2 ^ i
one_bit zero i h = absurd (omega arith)
one_bit (suc k) i h = go (ℕ_discrete k i) (one_bit k i)
  where
    go : Dec (k ≡ i) → (i < k → number (each k (λ a. eqb a i)) ≡ 2 ^ i) → number (each (suc k) (λ a. eqb a i)) ≡ 2 ^ i
    go (yes s) r =
        let e = ap (λ b. bit_of b * 2 ^ k) (eq-eqb k i s) in
        let p = ap (λ j. 2 ^ j) s in
        omega (arith, number_more k (λ a. eqb a i), no_bit k i (omega arith))
    go (no s) r =
        let e = ap (λ b. bit_of b * 2 ^ k) (ne_eqb k i s) in
        omega (arith, number_more k (λ a. eqb a i), r (omega arith))

pub table_one : (t : Table) (i : ℕ) → i < argument_count t → table_of t (λ a. eqb a i) ≡ 2 ^ i
table_one t i h = one_bit (argument_count t) i h
