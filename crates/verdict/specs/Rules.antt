-- The four rules that a block is judged by, and its latency.
use Rattle.std.specs.Prelude.{◌≡◌, ℕ, ◌<◌, ◌≤◌, Bool, true, false, ◌⊎◌, List, ◌++◌, map, length, slice_index, slice_index_or}
use Rattle.netlist.specs.Circuit.{Circuit, Wires, wire_count, mask_count, settled, seen, number, largest, register_counts}
use Rattle.netlist.specs.Nets.{circuit}
use Rattle.isolation.specs.Patterns.{interleave, xor, xors, size, joined}
use Rattle.isolation.specs.Clean.{Clean}
use Rattle.block.specs.Blocks.{Whole, net_part, output_at}

abbrev pub circuit_of : Whole → Circuit
circuit_of b = circuit (net_part b)

-- the wire of an output in domain d: false is domain 0, true is domain 1
abbrev pub in_domain : Bool → ℕ × ℕ → ℕ
in_domain false o = o.0
in_domain true o = o.1

abbrev pub output_wire : Whole → Bool → ℕ → ℕ
output_wire b d c = in_domain d (slice_index_or b.outputs c (0, 0))

abbrev pub output_wires : Whole → Bool → List ℕ
output_wires b d = map (in_domain d) b.outputs

-- bundle d: what probes on all outputs of domain d see together
abbrev pub bundle : Whole → Bool → Wires
bundle b d = joined (circuit_of b) (output_wires b d)

-- the bit on a wire, from the shares x of domain 0, the shares y of domain 1 and the masks
abbrev pub settled_at : Whole → (x y masks : List Bool) → ℕ → Bool
settled_at b x y masks w = slice_index_or (settled (circuit_of b) (interleave x y) masks) w false

-- sizes: at most 512 wires, and at most 8 MASK cells
abbrev pub Small : Whole → Type 0
Small b = (wire_count (circuit_of b) ≤ 512) × (mask_count (circuit_of b) ≤ 8)

-- output c recombines: for all shares and masks its two wires XOR to that output of the table at the XOR of the shares
abbrev pub RecombinesAt : Whole → ℕ → Type 0
RecombinesAt b c = (x y masks : List Bool) → length x ≡ b.table.n → length y ≡ b.table.n → length masks ≡ mask_count (circuit_of b)
    → xor (settled_at b x y masks (output_wire b false c)) (settled_at b x y masks (output_wire b true c)) ≡ output_at b.table c (number (xors x y))

-- recombination: every output recombines
abbrev pub Recombines : Whole → Type 0
Recombines b = (c : ℕ) → c < b.table.m → RecombinesAt b c

-- a set of at most 64 wires
abbrev pub Narrow : Whole → Wires → Type 0
Narrow b S = size (wire_count (circuit_of b)) S ≤ 64

-- probes: what a probe on a wire sees is narrow, and clean in domain 0 or in domain 1, for every wire, shares, MASKs and idle cells too
abbrev pub ProbesClean : Whole → Type 0
ProbesClean b = (w : ℕ) → w < wire_count (circuit_of b)
    → Narrow b (seen (circuit_of b) w) × (Clean (circuit_of b) (seen (circuit_of b) w) false ⊎ Clean (circuit_of b) (seen (circuit_of b) w) true)

-- bundles: bundle d is narrow, and clean in domain d
abbrev pub BundlesClean : Whole → Type 0
BundlesClean b = (d : Bool) → Narrow b (bundle b d) × Clean (circuit_of b) (bundle b d) d

pub record Accepted (b : Whole) : Type 0 where
  pub sizes : Small b
  pub recombination : Recombines b
  pub probes : ProbesClean b
  pub bundles : BundlesClean b

-- the largest register count at its outputs
abbrev pub latency : Whole → ℕ
latency b = largest (map (λ w. slice_index (register_counts (circuit_of b)) w) (output_wires b false ++ output_wires b true))
