-- What holds of the blocks of every table.
use Rattle.std.specs.Prelude.{◌≡◌, ◌+◌, ◌-◌, ◌*◌, ◌≤◌, Bool, List, length}
use Rattle.netlist.specs.Circuit.{wire_count, mask_count}
use Rattle.block.specs.Blocks.{Table, LawfulTable, LawfulBlock}
use Rattle.verdict.specs.Rules.{circuit_of, Recombines, Accepted, latency}
use Rattle.constructions.specs.Gates.{argument_count}
use Rattle.constructions.specs.Ghpc.{ghpc_of}
use Rattle.constructions.specs.LowLatency.{low_latency_of}
use Rattle.constructions.specs.GhpcForms as ghpc
use Rattle.constructions.specs.LowLatencyForms as low_latency
use Rattle.constructions.specs.GhpcByWire as ghpc_wires
use Rattle.constructions.specs.LowLatencyByWire as low_latency_wires

-- each block is lawful
abbrev pub GhpcIsLawful : Type 0
GhpcIsLawful = (t : Table) → LawfulTable t → LawfulBlock (ghpc_of t)

abbrev pub LowLatencyIsLawful : Type 0
LowLatencyIsLawful = (t : Table) → LawfulTable t → LawfulBlock (low_latency_of t)

-- its wires, its masks and its latency, with n inputs, m outputs and N = 2 ^ n
abbrev pub GhpcHasCounts : Type 0
GhpcHasCounts = (t : Table) → LawfulTable t
    → (wire_count (circuit_of (ghpc_of t)) ≡ 2 * t.n + t.m + 2 * argument_count t + t.m * (6 * argument_count t + 1))
    × (mask_count (circuit_of (ghpc_of t)) ≡ t.m)
    × (latency (ghpc_of t) ≡ 2)

abbrev pub LowLatencyHasCounts : Type 0
LowLatencyHasCounts = (t : Table) → LawfulTable t
    → (wire_count (circuit_of (low_latency_of t)) ≡ 2 * t.n + t.m * argument_count t + 2 * argument_count t + t.m * (7 * argument_count t - 1))
    × (mask_count (circuit_of (low_latency_of t)) ≡ t.m * argument_count t)
    × (latency (low_latency_of t) ≡ 1)

-- its function: whatever the shares and the masks, the two wires of each output recombine to that output of the table at the recombined inputs
abbrev pub GhpcRecombines : Type 0
GhpcRecombines = (t : Table) → LawfulTable t → Recombines (ghpc_of t)

abbrev pub LowLatencyRecombines : Type 0
LowLatencyRecombines = (t : Table) → LawfulTable t → Recombines (low_latency_of t)

-- what each wire settles to
abbrev pub GhpcSettles : Type 0
GhpcSettles = (t : Table) → LawfulTable t → (x y masks : List Bool) → length x ≡ t.n → length y ≡ t.n → ghpc.Settles t x y masks

abbrev pub LowLatencySettles : Type 0
LowLatencySettles = (t : Table) → LawfulTable t → (x y masks : List Bool) → length x ≡ t.n → length y ≡ t.n → low_latency.Settles t x y masks

-- what a probe on each wire sees
abbrev pub GhpcSees : Type 0
GhpcSees = (t : Table) → LawfulTable t → ghpc.Sees t

abbrev pub LowLatencySees : Type 0
LowLatencySees = (t : Table) → LawfulTable t → low_latency.Sees t

-- all four rules hold of it
abbrev pub GhpcIsAccepted : Type 0
GhpcIsAccepted = (t : Table) → LawfulTable t → Accepted (ghpc_of t)

abbrev pub LowLatencyIsAccepted : Type 0
LowLatencyIsAccepted = (t : Table) → LawfulTable t → t.m * argument_count t ≤ 8 → Accepted (low_latency_of t)

-- which cell stands on each wire
abbrev pub GhpcStandsByWire : Type 0
GhpcStandsByWire = (t : Table) → ghpc_wires.ByWire t

abbrev pub LowLatencyStandsByWire : Type 0
LowLatencyStandsByWire = (t : Table) → low_latency_wires.ByWire t
