-- What holds of every circuit.
use Rattle.std.specs.Prelude.{◌≡◌, ℕ, ◌<◌, Bool, true, false, not, List, length, take}
use Rattle.netlist.specs.Circuit.{Circuit, Wires, Carrier, carry, share_count, wire_count, mask_count, settled}
use Rattle.isolation.specs.Agreeing.{Determines}
use Rattle.isolation.specs.Equations.{Meets}
use Rattle.isolation.specs.Sums.{sum}
use Rattle.isolation.specs.Patterns.{pattern, shares, share_wire, xors, maskings}
use Rattle.isolation.specs.Clean.{Clean}
use Rattle.isolation.specs.Shifts.{Restores}

-- a list that meets the equation of each driver is what the wires carry, for every carrier of values V
abbrev pub EquationsFixValues : Type 0 → Type 0
EquationsFixValues V = (A : Carrier V) (c : Circuit) (vs : List V) → length vs ≡ wire_count c → Meets A c vs
    → carry A c.drivers 0 (take (share_count c) vs) ≡ vs

-- what a probe sees determines the value on its wire
abbrev pub ProbeDeterminesWire : Type 0
ProbeDeterminesWire = (c : Circuit) (w : ℕ) → Determines c w

-- patterns that arise equally often weigh equally: on a set that is clean in d, every weight F on patterns, summed over all
-- settings of the masks, is the same for any two values of the other domain's shares
abbrev pub CleanWeighsEqually : Type 0
CleanWeighsEqually = (c : Circuit) (S : Wires) (d : Bool) → Clean c S d → (F : List Bool → ℕ) (x y z : List Bool)
    → length x ≡ c.inputs → length y ≡ c.inputs → length z ≡ c.inputs
    → sum (mask_count c) (λ m. F (pattern S (settled c (shares d x y) m))) ≡ sum (mask_count c) (λ m. F (pattern S (settled c (shares d x z) m)))

-- a subset of a clean set is clean
abbrev pub SubsetIsClean : Type 0
SubsetIsClean = (c : Circuit) (S T : Wires) (d : Bool) → ((w : ℕ) → T w ≡ true → S w ≡ true) → Clean c S d → Clean c T d

-- what is worked out from a clean pattern is clean: if the pattern on T is always f of the pattern on S
abbrev pub WorkedOutIsClean : Type 0
WorkedOutIsClean = (c : Circuit) (S T : Wires) (d : Bool) (f : List Bool → List Bool)
    → ((s m : List Bool) → length s ≡ share_count c → length m ≡ mask_count c → pattern T (settled c s m) ≡ f (pattern S (settled c s m)))
    → Clean c S d → Clean c T d

-- a shift of the masks changes no sum over all settings of them
abbrev pub ShiftKeepsSum : Type 0
ShiftKeepsSum = (v : List Bool) (f : List Bool → ℕ) → sum (length v) (λ m. f (xors m v)) ≡ sum (length v) f

-- a set whose pattern a shift of the masks restores, whatever the other domain's shares change from and to, is clean
abbrev pub RestoredIsClean : Type 0
RestoredIsClean = (c : Circuit) (S : Wires) (d : Bool)
    → ((x y z : List Bool) → length x ≡ c.inputs → length y ≡ c.inputs → length z ≡ c.inputs → (v : List Bool) × Restores c S d x y z v)
    → Clean c S d

-- a set that is clean in one domain holds no input share of the other
abbrev pub CleanHoldsNoOtherShare : Type 0
CleanHoldsNoOtherShare = (c : Circuit) (S : Wires) (d : Bool) → Clean c S d → (i : ℕ) → i < c.inputs → S (share_wire (not d) i) ≡ false

-- on a set that is clean in domain 0 or in domain 1, every pattern arises in equally many maskings of any two plain inputs
abbrev pub CleanHidesPlainInputs : Type 0
CleanHidesPlainInputs = (c : Circuit) (S : Wires) (d : Bool) → Clean c S d → (x y q : List Bool)
    → length x ≡ c.inputs → length y ≡ c.inputs → maskings c S x q ≡ maskings c S y q
