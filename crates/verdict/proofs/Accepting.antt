-- A block that meets all rules is accepted, with its numbers.
use Rattle.std.proofs.Common.{◌≡◌, ℕ, Ok}
use Rattle.netlist.specs.Circuit.{wire_count, mask_count}
use Rattle.block.specs.Blocks.{Whole}
use Rattle.verdict.specs.Rules.{circuit_of, Accepted, latency}
use Rattle.verdict.specs.Stations.{stations}
use Rattle.verdict.specs.Verdict.{acceptance, verdict}
use Rattle.verdict.proofs.Judging.{accepts}
use Rattle.verdict.proofs.Rules.{rules_hold}

pub accepted_verdict : (b : Whole) → Accepted b → verdict b ≡ Ok (acceptance b)
accepted_verdict b h = accepts b (stations b) (rules_hold b h)

-- the same, by its numbers
pub accepted_numbers : (b : Whole) → Accepted b → (wires masks register_count : ℕ) → wires ≡ wire_count (circuit_of b) → masks ≡ mask_count (circuit_of b) → register_count ≡ latency b
    → verdict b ≡ Ok (record { wires = wires; masks = masks; latency = register_count })
accepted_numbers b h wires masks register_count ew em el = let e = accepted_verdict b h in cc
