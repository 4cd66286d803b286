-- The number that a list of bits spells.
use Rattle.std.proofs.Common.{◌^◌, ◌<◌, Bool, true, false, List, [], ◌∷◌, length, arith}
use native.Mathlib.Nat.{pow-succ'}
use Rattle.netlist.specs.Circuit.{number}

pub number_below : (l : List Bool) → number l < 2 ^ length l
number_below [] = omega arith
number_below (true ∷ l) = let h = number_below l in omega (arith, pow-succ' 2 (length l))
number_below (false ∷ l) = let h = number_below l in omega (arith, pow-succ' 2 (length l))
