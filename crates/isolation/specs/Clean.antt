-- Sets of wires that tell nothing of the shares of one domain.
use Rattle.std.specs.Prelude.{◌≡◌, Bool, List, length}
use Rattle.netlist.specs.Circuit.{Circuit, Wires}
use Rattle.isolation.specs.Patterns.{shares, count}

-- S is clean in domain d: for each value x of the shares of domain d and any two values y and z of the other domain's,
-- every pattern q on S arises from equally many settings of the masks
abbrev pub Clean : Circuit → Wires → Bool → Type 0
Clean c S d = (x y z q : List Bool) → length x ≡ c.inputs → length y ≡ c.inputs → length z ≡ c.inputs
    → count c S (shares d x y) q ≡ count c S (shares d x z) q
