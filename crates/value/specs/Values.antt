-- The things that a program carries on wires: bits, 64 bits side by side, register counts.
use Rattle.std.specs.Prelude.{ℕ, zero, suc, ◌+◌, ◌*◌, ◌^◌, min, Bool, List, map, slice_index_or}
use Rattle.netlist.specs.Circuit.{bit_of, number, bit, largest}

-- what registers and look-ups make of values, and what a wire carries where nothing is given
pub record Ops (V : Type 0) : Type 0 where
  pub none : V
  pub register : V → V
  pub look : ℕ → List V → V

-- lane j of a word is its bit j
abbrev pub lane : ℕ → ℕ → Bool
lane j x = bit x j

-- the number whose lane j is f j, for j below n; it stays shut, since at 64 it is a sum of 64 terms
unfoldable pub lanes : ℕ → (ℕ → Bool) → ℕ
lanes zero f = 0
lanes (suc n) f = lanes n f + bit_of (f n) * 2 ^ n

-- n bits side by side, each lane by itself
abbrev pub lane_ops : ℕ → Ops ℕ
lane_ops n = record { none = 0; register = λ x. x; look = λ t xs. lanes n (λ j. bit t (number (map (lane j) xs))) }

-- a register count in 16 bits, which stays at the largest of these
abbrev pub count_ops : Ops ℕ
count_ops = record { none = 0; register = λ x. min 65535 (x + 1); look = λ t xs. largest xs }

-- what some wires carry, by what all wires carry
abbrev pub carried_on : {V : Type 0} → V → List V → List ℕ → List V
carried_on none values wires = map (λ w. slice_index_or values w none) wires
