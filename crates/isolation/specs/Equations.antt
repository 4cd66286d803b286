-- Lists of values that meet the equation of each driver.
use Rattle.std.specs.Prelude.{◌≡◌, ℕ, ◌+◌, ◌<◌, List, length, take, slice_index_or}
use Rattle.netlist.specs.Circuit.{fresh, Circuit, share_count, Carrier, carried, fresh_after}

-- vs meets the equation of each driver: the value on the driver's wire is what the driver makes of the values on the wires before
abbrev pub Meets : {V : Type 0} → Carrier V → Circuit → List V → Type 0
Meets A c vs = (j : ℕ) → j < length c.drivers
    → slice_index_or vs (share_count c + j) A.none ≡ carried A (slice_index_or c.drivers j fresh) (fresh_after (take j c.drivers) 0) (take (share_count c + j) vs)
