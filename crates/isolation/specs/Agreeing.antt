-- Two settlings that agree on a set of wires.
use Rattle.std.specs.Prelude.{◌≡◌, ℕ, Bool, true, false, List, length, slice_index_or}
use Rattle.netlist.specs.Circuit.{Circuit, Wires, share_count, settled, seen}

-- the same value on each wire of S
abbrev pub Agree : Wires → List Bool → List Bool → Type 0
Agree S u v = (w : ℕ) → S w ≡ true → slice_index_or u w false ≡ slice_index_or v w false

-- what a probe on w sees determines the value on w: two settlings that agree on all wires that it sees agree on w
abbrev pub Determines : Circuit → ℕ → Type 0
Determines c w = (s m t n : List Bool) → length s ≡ share_count c → length t ≡ share_count c
    → Agree (seen c w) (settled c s m) (settled c t n) → slice_index_or (settled c s m) w false ≡ slice_index_or (settled c t n) w false
