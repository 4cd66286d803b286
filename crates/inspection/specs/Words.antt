-- What a typed character stands for.
use Rattle.std.specs.Prelude.{ℕ, cond, ◌==◌}

-- the bits 0 and 1, and a byte that is no bit for any other character
abbrev pub typed_bit : ℕ → ℕ
typed_bit c = cond (c == 48) 0 (cond (c == 49) 1 2)
