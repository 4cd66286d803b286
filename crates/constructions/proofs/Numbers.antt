-- Numbers as lists of bits, and tables as numbers.
use Rattle.std.proofs.Common.{◌≡◌, ℕ, zero, suc, ◌+◌, ◌*◌, ◌/◌, ◌%◌, ◌^◌, ◌<◌, ◌≤◌, Bool, true, false, ◌&&◌, eqb, List, [], ◌∷◌, length, get_or, sym, refl, ap, ◌∙◌, subst, ap₂, arith, pow_pos, pow_mono}
use native.Mathlib.Nat.{pow-succ', div-div-eq-div-mul}
use lib.Bits.{bit_xor, xor_step, xor_zero_r}
use Rattle.netlist.specs.Circuit.{bit_of, number, bit}
use Rattle.netlist.proofs.Bits.{bit_zero}
use Rattle.isolation.specs.Patterns.{xor, xors}
use Rattle.isolation.proofs.Numbers.{number_below}
use Rattle.block.specs.Blocks.{Table, LawfulTable}
use Rattle.constructions.specs.Gates.{each, argument_count, table_of}
use Rattle.constructions.proofs.Rows.{length_each, get_or_each}

bit_first : (b : Bool) (q : ℕ) → bit (bit_of b + 2 * q) 0 ≡ b
bit_first true q = let e : (1 + 2 * q) / 1 % 2 ≡ 1 = omega arith in ap (λ x. eqb x 1) e
bit_first false q = let e : (0 + 2 * q) / 1 % 2 ≡ 0 = omega arith in ap (λ x. eqb x 1) e

half_of : (b : Bool) (q : ℕ) → (bit_of b + 2 * q) / 2 ≡ q
half_of true q = omega arith
half_of false q = omega arith

bit_more : (b : Bool) (q i : ℕ) → bit (bit_of b + 2 * q) (suc i) ≡ bit q i
bit_more b q i =
    let t = bit_of b + 2 * q in
    ap (λ x. eqb (x % 2) 1) (ap (λ x. t / x) (pow-succ' 2 i) ∙ sym (div-div-eq-div-mul t 2 (2 ^ i)) ∙ ap (λ x. x / 2 ^ i) (half_of b q))

pub bit_number : (l : List Bool) (i : ℕ) → bit (number l) i ≡ get_or l i false
bit_number [] i = bit_zero i
bit_number (b ∷ l) zero = bit_first b (number l)
bit_number (b ∷ l) (suc i) = bit_more b (number l) i ∙ bit_number l i

pub number_fits : (k : ℕ) (l : List Bool) → length l ≡ k → number l < 2 ^ k
number_fits k l h = subst (λ j. number l < 2 ^ j) h (number_below l)

pub some_arguments : (t : Table) → 1 ≤ argument_count t
some_arguments t = pow_pos t.n

pub least_arguments : (t : Table) → LawfulTable t → 2 ≤ argument_count t
least_arguments t l = let least : 2 ^ 1 ≤ 2 ^ t.n = pow_mono l.some_inputs in omega arith

pub most_arguments : (t : Table) → LawfulTable t → argument_count t ≤ 16
most_arguments t l = pow_mono l.few_inputs

-- a look-up gives what its table was made from, and the table fits
pub bit_table : (t : Table) (f : ℕ → Bool) (a : ℕ) → a < argument_count t → bit (table_of t f) a ≡ f a
bit_table t f a h = bit_number (each (argument_count t) f) a ∙ get_or_each (argument_count t) f a false h

pub table_below : (t : Table) (f : ℕ → Bool) → table_of t f < 2 ^ argument_count t
table_below t f = number_fits (argument_count t) (each (argument_count t) f) (length_each (argument_count t) f)

pub look_xor : (a b : Bool) → bit 6 (number (a ∷ b ∷ [])) ≡ xor a b
look_xor true true = refl
look_xor true false = refl
look_xor false true = refl
look_xor false false = refl

pub look_and : (a b : Bool) → bit 8 (number (a ∷ b ∷ [])) ≡ (a && b)
look_and true true = refl
look_and true false = refl
look_and false true = refl
look_and false false = refl

-- the XOR of two numbers is that of their bits
odd_of : (b : Bool) (q : ℕ) → (bit_of b + 2 * q) % 2 ≡ bit_of b
odd_of true q = omega arith
odd_of false q = omega arith

differ_bits : (a b : Bool) → Prim.Native.Nat.differ (bit_of a) (bit_of b) ≡ bit_of (xor a b)
differ_bits true true = refl
differ_bits true false = refl
differ_bits false true = refl
differ_bits false false = refl

pub number_xors : (xs ys : List Bool) → number (xors xs ys) ≡ bit_xor (number xs) (number ys)
number_xors [] ys = refl
number_xors (a ∷ xs) [] = sym (xor_zero_r (number (a ∷ xs)))
number_xors (a ∷ xs) (b ∷ ys) =
    let r = number_xors xs ys in
    let s = xor_step (number (a ∷ xs)) (number (b ∷ ys)) in
    let p : bit_xor (number (a ∷ xs) / 2) (number (b ∷ ys) / 2) ≡ bit_xor (number xs) (number ys) = cc (half_of a (number xs), half_of b (number ys)) in
    let q : Prim.Native.Nat.differ (number (a ∷ xs) % 2) (number (b ∷ ys) % 2) ≡ bit_of (xor a b) =
    ap₂ Prim.Native.Nat.differ (odd_of a (number xs)) (odd_of b (number ys)) ∙ differ_bits a b in
    omega arith
