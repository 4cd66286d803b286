-- Worked examples: the constructions compute, on the two-input AND.
use Rattle.std.proofs.Common.{◌≡◌, ℕ, ◌+◌, ◌*◌, true, false, List, [], ◌∷◌, ◌++◌, refl}
use Rattle.std.specs.List.{range_with_len}
use Rattle.netlist.specs.Circuit.{Driver, fresh, stored, looked, wire_count, mask_count, seen}
use Rattle.isolation.specs.Patterns.{pattern}
use Rattle.block.specs.Blocks.{Table}
use Rattle.verdict.specs.Rules.{circuit_of, settled_at, latency}
use Rattle.constructions.specs.Ghpc.{ghpc_of}
use Rattle.constructions.specs.LowLatency.{low_latency_of}

abbrev and_table : Table
and_table = record { n = 2; m = 1; entries = 0 ∷ 0 ∷ 0 ∷ 1 ∷ [] }

and_block : (wire_count (circuit_of (ghpc_of and_table)) ≡ 38) × (mask_count (circuit_of (ghpc_of and_table)) ≡ 1) × (latency (ghpc_of and_table) ≡ 2)
and_block = (refl, refl, refl)

-- its cells one by one, by what they drive
abbrev pair : ℕ → ℕ → ℕ → List Driver
pair first i table = looked table (1 ∷ 3 ∷ []) ∷ stored (first + 2 * i) ∷ []

abbrev product : ℕ → ℕ → List Driver
product i table =
    looked table (0 ∷ 2 ∷ []) ∷ looked 6 ((13 + 5 * i) ∷ 4 ∷ []) ∷ stored (14 + 5 * i) ∷ looked 8 ((6 + 2 * i) ∷ (15 + 5 * i) ∷ []) ∷ stored (16 + 5 * i) ∷ []

and_drivers : (circuit_of (ghpc_of and_table)).drivers
    ≡ (fresh ∷ []) ++ pair 5 0 1 ++ pair 5 1 2 ++ pair 5 2 4 ++ pair 5 3 8 ++ product 0 8 ++ product 1 4 ++ product 2 2 ++ product 3 1
    ++ (looked 6 (17 ∷ 22 ∷ []) ∷ looked 6 (33 ∷ 27 ∷ []) ∷ looked 6 (34 ∷ 32 ∷ []) ∷ stored 4 ∷ stored 36 ∷ [])
and_drivers = refl

and_outputs : (ghpc_of and_table).outputs ≡ ((37, 35) ∷ [])
and_outputs = refl

-- a probe on wire 35 sees exactly these wires
and_seen : pattern (seen (circuit_of (ghpc_of and_table)) 35) (range_with_len 0 38) ≡ (17 ∷ 22 ∷ 27 ∷ 32 ∷ [])
and_seen = refl

-- the shares 1, 0, 0, 1 in wire order: 1, 0 in domain 0 and 0, 1 in domain 1; and the mask 1
and_settled : (settled_at (ghpc_of and_table) (true ∷ false ∷ []) (false ∷ true ∷ []) (true ∷ []) 37 ≡ true)
    × (settled_at (ghpc_of and_table) (true ∷ false ∷ []) (false ∷ true ∷ []) (true ∷ []) 35 ≡ false)
and_settled = (refl, refl)

and_low_latency : (wire_count (circuit_of (low_latency_of and_table)) ≡ 43) × (mask_count (circuit_of (low_latency_of and_table)) ≡ 4)
    × (latency (low_latency_of and_table) ≡ 1)
and_low_latency = (refl, refl, refl)

abbrev masked_product : ℕ → ℕ → List Driver
masked_product i table =
    looked table (0 ∷ 2 ∷ []) ∷ looked 6 ((16 + 5 * i) ∷ (4 + i) ∷ []) ∷ stored (17 + 5 * i) ∷ looked 8 ((9 + 2 * i) ∷ (18 + 5 * i) ∷ [])
    ∷ looked 8 ((8 + 2 * i) ∷ (4 + i) ∷ []) ∷ []

and_low_latency_drivers : (circuit_of (low_latency_of and_table)).drivers
    ≡ (fresh ∷ fresh ∷ fresh ∷ fresh ∷ []) ++ pair 8 0 1 ++ pair 8 1 2 ++ pair 8 2 4 ++ pair 8 3 8
    ++ masked_product 0 8 ++ masked_product 1 4 ++ masked_product 2 2 ++ masked_product 3 1
    ++ (looked 6 (19 ∷ 24 ∷ []) ∷ looked 6 (36 ∷ 29 ∷ []) ∷ looked 6 (37 ∷ 34 ∷ []) ∷ [])
    ++ (looked 6 (20 ∷ 25 ∷ []) ∷ looked 6 (39 ∷ 30 ∷ []) ∷ looked 6 (40 ∷ 35 ∷ []) ∷ stored 41 ∷ [])
and_low_latency_drivers = refl

and_low_latency_outputs : (low_latency_of and_table).outputs ≡ ((42, 38) ∷ [])
and_low_latency_outputs = refl

-- a table of four inputs and four outputs
abbrev wide_table : Table
wide_table = record { n = 4; m = 4; entries = 12 ∷ 5 ∷ 6 ∷ 11 ∷ 9 ∷ 0 ∷ 10 ∷ 13 ∷ 3 ∷ 14 ∷ 15 ∷ 8 ∷ 4 ∷ 7 ∷ 1 ∷ 2 ∷ [] }

wide_block : (wire_count (circuit_of (ghpc_of wide_table)) ≡ 432) × (mask_count (circuit_of (ghpc_of wide_table)) ≡ 4)
wide_block = (refl, refl)
