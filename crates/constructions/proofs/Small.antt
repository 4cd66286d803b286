-- What holds of the numbers below 2, or below 5, one by one.
use Rattle.std.proofs.Common.{ℕ, zero, suc, ◌<◌, arith}

pub of_two : (r : ℕ) (f : ℕ → Type 0) → r < 2 → f 0 → f 1 → f r
of_two zero f l a b = a
of_two (suc zero) f l a b = b
of_two (suc (suc r)) f l a b = absurd (omega arith)

pub of_five : (r : ℕ) (f : ℕ → Type 0) → r < 5 → f 0 → f 1 → f 2 → f 3 → f 4 → f r
of_five zero f l a b c d e = a
of_five (suc zero) f l a b c d e = b
of_five (suc (suc zero)) f l a b c d e = c
of_five (suc (suc (suc zero))) f l a b c d e = d
of_five (suc (suc (suc (suc zero)))) f l a b c d e = e
of_five (suc (suc (suc (suc (suc r))))) f l a b c d e = absurd (omega arith)
