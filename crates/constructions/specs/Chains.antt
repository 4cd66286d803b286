-- Chains of XOR cells.
use Rattle.std.specs.Prelude.{ℕ, zero, suc, ◌+◌}

-- the wire on which the terms 0 to j are joined: term 0 itself, and then the chain's cells
abbrev pub chain_wire : ℕ → ℕ → ℕ → ℕ
chain_wire first chain zero = first
chain_wire first chain (suc j) = chain + j
