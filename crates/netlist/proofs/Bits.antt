-- Bits that are 0: those of 0, and those of a byte from 8 up.
use Rattle.std.proofs.Common.{◌≡◌, ℕ, ◌<◌, ◌≤◌, false, eqb, ap}
use Rattle.std.proofs.lemmas.Nat.Bits.{bit_at-zero, bit_at_above}
use Rattle.netlist.specs.Circuit.{bit}

pub bit_zero : (i : ℕ) → bit 0 i ≡ false
bit_zero i = ap (λ b. eqb b 1) (bit_at-zero i)

pub bit_past : (x i : ℕ) → x < 256 → 8 ≤ i → bit x i ≡ false
bit_past x i h l = ap (λ b. eqb b 1) (bit_at_above x 8 i h l)
