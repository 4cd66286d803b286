-- The verdict says just what the rules say.
use Rattle.std.specs.Prelude.{◌≡◌, ℕ, ◌+◌, ◌<◌, length, take, Ok, Err, slice_index_or}
use Rattle.fault.specs.declared.NetlistFault.{NetlistFault}
use Rattle.netlist.specs.Circuit.{fresh, stored, share_count, mask_count, fresh_after}
use Rattle.block.specs.Blocks.{Whole}
use Rattle.verdict.specs.declared.Acceptance.{Acceptance}
use Rattle.verdict.specs.Rules.{circuit_of, Accepted}
use Rattle.verdict.specs.Stations.{Station, ninth_mask, fault_at, stations, FirstFailing}
use Rattle.verdict.specs.Verdict.{acceptance, verdict}

-- if and only if
abbrev pub Iff : Type 0 → Type 0 → Type 0
Iff A B = (A → B) × (B → A)

-- f is the fault of the first station at which the rules do not hold
abbrev pub FirstFault : Whole → NetlistFault → Type 0
FirstFault b f = (s : Station) × FirstFailing b (stations b) s × (f ≡ fault_at b s)

-- a block is accepted if and only if it meets all rules, and then with its numbers of wires and MASK cells and its latency
abbrev pub AcceptsByRules : Type 0
AcceptsByRules = (b : Whole) (a : Acceptance) → Iff (verdict b ≡ Ok a) (Accepted b × (a ≡ acceptance b))

-- a block is refused with a fault if and only if that is the fault of the first station at which the rules do not hold
abbrev pub RefusesByRules : Type 0
RefusesByRules = (b : Whole) (f : NetlistFault) → Iff (verdict b ≡ Err f) (FirstFault b f)

-- the ninth MASK is told: where there are more than 8, the wire that the fault names is driven by a MASK with 8 others before it
abbrev pub TellsNinthMask : Type 0
TellsNinthMask = (b : Whole) → 8 < mask_count (circuit_of b)
    → (j : ℕ) × (ninth_mask b ≡ share_count (circuit_of b) + j) × (j < length (circuit_of b).drivers)
    × (slice_index_or (circuit_of b).drivers j (stored 0) ≡ fresh) × (fresh_after (take j (circuit_of b).drivers) 0 ≡ 8)
