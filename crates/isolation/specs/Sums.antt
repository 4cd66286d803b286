-- Sums over all lists of bits of one length.
use Rattle.std.specs.Prelude.{ℕ, zero, suc, ◌+◌, Bool, true, false, List, [], ◌∷◌}

-- the sum of f over all lists of k bits
abbrev pub sum : ℕ → (List Bool → ℕ) → ℕ
sum zero f = f []
sum (suc k) f = sum k (λ m. f (false ∷ m)) + sum k (λ m. f (true ∷ m))
