-- The rules station by station: each is one test of a block, and a fault names the first station that fails.
use Rattle.std.specs.Prelude.{◌≡◌, ℕ, zero, suc, ◌+◌, ◌≤◌, Bool, true, false, ◌⊎◌, List, [], ◌∷◌, ◌++◌, map}
use Rattle.std.specs.List.{range_with_len, AllByRecursion}
use Rattle.fault.specs.declared.NetlistFault.{NetlistFault}
use Rattle.fault.specs.declared.NetlistFault.TheVariants.{BlockWires, BlockMasks, Recombination, Breadth, Leak}
use Rattle.netlist.specs.Circuit.{Driver, fresh, stored, looked, Wires, share_count, wire_count, mask_count, seen, bit_of}
use Rattle.isolation.specs.Clean.{Clean}
use Rattle.block.specs.Blocks.{Whole}
use Rattle.verdict.specs.Rules.{circuit_of, bundle, RecombinesAt, Narrow}

-- what is observed: by a probe on a wire, or on all outputs of one domain together
pub data Observation : Type 0 where
  on_wire : ℕ → Observation
  on_outputs : Bool → Observation

abbrev pub observed : Whole → Observation → Wires
observed b (on_wire w) = seen (circuit_of b) w
observed b (on_outputs d) = bundle b d

-- its place: the wire; bundles 0 and 1 count as the two wires after the last
abbrev pub place : Whole → Observation → ℕ
place b (on_wire w) = w
place b (on_outputs d) = wire_count (circuit_of b) + bit_of d

-- what a probe sees is clean in domain 0 or in domain 1; a bundle is clean in its own domain
abbrev pub Isolated : Whole → Observation → Type 0
Isolated b (on_wire w) = Clean (circuit_of b) (seen (circuit_of b) w) false ⊎ Clean (circuit_of b) (seen (circuit_of b) w) true
Isolated b (on_outputs d) = Clean (circuit_of b) (bundle b d) d

pub data Station : Type 0 where
  wires : Station
  masks : Station
  output : ℕ → Station
  breadth : Observation → Station
  isolation : Observation → Station

-- what the rules ask at a station
abbrev pub Holds : Whole → Station → Type 0
Holds b wires = wire_count (circuit_of b) ≤ 512
Holds b masks = mask_count (circuit_of b) ≤ 8
Holds b (output c) = RecombinesAt b c
Holds b (breadth o) = Narrow b (observed b o)
Holds b (isolation o) = Isolated b o

-- the wire of the MASK that has k others before it, the first driver being on wire w
abbrev pub mask_wire : List Driver → ℕ → ℕ → ℕ
mask_wire [] k w = w
mask_wire (fresh ∷ ds) zero w = w
mask_wire (fresh ∷ ds) (suc k) w = mask_wire ds k (suc w)
mask_wire (stored a ∷ ds) k w = mask_wire ds k (suc w)
mask_wire (looked t os ∷ ds) k w = mask_wire ds k (suc w)

-- the wire of the ninth MASK
abbrev pub ninth_mask : Whole → ℕ
ninth_mask b = mask_wire (circuit_of b).drivers 8 (share_count (circuit_of b))

-- what is answered where a station fails
abbrev pub fault_at : Whole → Station → NetlistFault
fault_at b wires = BlockWires
fault_at b masks = BlockMasks (ninth_mask b)
fault_at b (output c) = Recombination c
fault_at b (breadth o) = Breadth (place b o)
fault_at b (isolation o) = Leak (place b o)

-- of each observation its breadth first
abbrev pub stations_of : List Observation → List Station
stations_of [] = []
stations_of (o ∷ os) = breadth o ∷ isolation o ∷ stations_of os

-- every wire in ascending order, then bundle 0 and bundle 1
abbrev pub observations : Whole → List Observation
observations b = map on_wire (range_with_len 0 (wire_count (circuit_of b))) ++ (on_outputs false ∷ on_outputs true ∷ [])

-- all stations of a block in the order of the verdict: sizes, outputs, observations
abbrev pub stations : Whole → List Station
stations b = wires ∷ masks ∷ (map output (range_with_len 0 b.table.m) ++ stations_of (observations b))

-- s is the first of the list at which the rules do not hold: they hold at all before it, and not at s
abbrev pub FirstFailing : Whole → List Station → Station → Type 0
FirstFailing b ss s =
    (before : List Station) × (after : List Station) × (ss ≡ before ++ (s ∷ after)) × AllByRecursion (Holds b) before × ¬ (Holds b s)
