-- The wire of a MASK by how many others come before it.
use Rattle.std.proofs.Common.{◌≡◌, ℕ, zero, suc, ◌+◌, ◌<◌, List, [], ◌∷◌, length, get_or, take, refl, arith}
use Rattle.netlist.specs.Circuit.{Driver, fresh, stored, looked, share_count, fresh_after}
use Rattle.verdict.specs.Rules.{circuit_of}
use Rattle.verdict.specs.Stations.{mask_wire}
use Rattle.verdict.specs.Theorems.{TellsNinthMask}

-- wire w + j is driven by a MASK that has k others before it, a of them before the list
abbrev Told : List Driver → ℕ → ℕ → ℕ → Type 0
Told ds k w a =
    (j : ℕ) × (mask_wire ds k w ≡ w + j) × (j < length ds) × (get_or ds j (stored 0) ≡ fresh) × (fresh_after (take j ds) a ≡ a + k)

told_from : (ds : List Driver) (k w a : ℕ) → a + k < fresh_after ds a → Told ds k w a
told_from [] k w a h = absurd (omega arith)
told_from (fresh ∷ ds) zero w a h = (0, omega arith, omega arith, refl, omega arith)
told_from (fresh ∷ ds) (suc k) w a h =
    let (j, at, l, f, n) = told_from ds k (suc w) (suc a) (omega arith) in (suc j, omega arith, omega arith, f, omega arith)
told_from (stored o ∷ ds) k w a h =
    let (j, at, l, f, n) = told_from ds k (suc w) a h in (suc j, omega arith, omega arith, f, n)
told_from (looked t os ∷ ds) k w a h =
    let (j, at, l, f, n) = told_from ds k (suc w) a h in (suc j, omega arith, omega arith, f, n)

pub told : TellsNinthMask
told b h = told_from (circuit_of b).drivers 8 (share_count (circuit_of b)) 0 h
