-- Shifts of the masks: one list of bits XORed to every setting.
use Rattle.std.specs.Prelude.{◌≡◌, Bool, List, length}
use Rattle.netlist.specs.Circuit.{Circuit, Wires, mask_count, settled}
use Rattle.isolation.specs.Patterns.{pattern, shares, xors}

-- the shift v makes up for a change of the other domain's shares from y to z, x being the shares of domain d: the pattern on S
-- at y with the masks at m is the pattern at z with the masks at m XOR v
abbrev pub Restores : Circuit → Wires → Bool → List Bool → List Bool → List Bool → List Bool → Type 0
Restores c S d x y z v = (length v ≡ mask_count c) × ((m : List Bool) → length m ≡ mask_count c
    → pattern S (settled c (shares d x y) m) ≡ pattern S (settled c (shares d x z) (xors m v)))
