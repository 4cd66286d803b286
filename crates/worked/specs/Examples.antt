-- Worked examples: blocks, and what is claimed of each.
use Rattle.std.specs.Prelude.{◌≡◌, ℕ, Bool, true, List, [], ◌∷◌, length, replicate, Ok, Err, Result, slice_index}
use Rattle.std.specs.List.{range_with_len}
use Rattle.fault.specs.declared.NetlistFault.{NetlistFault}
use Rattle.fault.specs.declared.NetlistFault.TheVariants.{BlockWires, BlockMasks, Recombination, Breadth, Leak}
use Rattle.netlist.specs.declared.cell.Kind.TheVariants.{Mask, Xor, Reg}
use Rattle.netlist.specs.Circuit.{wire_count, mask_count, seen}
use Rattle.isolation.specs.Patterns.{pattern, size}
use Rattle.isolation.specs.Clean.{Clean}
use Rattle.query.specs.Answers.{settled_bytes}
use Rattle.block.specs.Blocks.{Whole}
use Rattle.blockfile.specs.Format.{file_of}
use Rattle.verdict.specs.declared.Acceptance.{Acceptance}
use Rattle.verdict.specs.Rules.{circuit_of, bundle}
use Rattle.verdict.specs.Verdict.{verdict}
use Rattle.constructions.specs.Ghpc.{ghpc_of}
use Rattle.constructions.specs.LowLatency.{low_latency_of}
use Rattle.worked.specs.Blocks.{gate, single, wiring, joined_registers, and_table, present_table, one_mask, unregistered}

-- what is claimed of a block: its verdict; its wires and masks; how long its file is; which wires a probe on a wire sees, in ascending order;
-- which bit the bytes given settle a wire to; how many wires are in bundle d; that bundle d is not clean
pub data Claim : Type 0 where
  judged : Result Acceptance NetlistFault → Claim
  sized : (wires masks : ℕ) → Claim
  filed : ℕ → Claim
  sees : ℕ → List ℕ → Claim
  settles : (given : List ℕ) (wire bit : ℕ) → Claim
  bundled : Bool → ℕ → Claim
  leaks : Bool → Claim

abbrev pub Holds : Whole × Claim → Type 0
Holds (b, judged v) = verdict b ≡ v
Holds (b, sized wires masks) = (wire_count (circuit_of b) ≡ wires) × (mask_count (circuit_of b) ≡ masks)
Holds (b, filed n) = length (file_of b) ≡ n
Holds (b, sees w ws) = pattern (seen (circuit_of b) w) (range_with_len 0 (wire_count (circuit_of b))) ≡ ws
Holds (b, settles given w bit) = slice_index (settled_bytes (circuit_of b) given) w ≡ bit
Holds (b, bundled d n) = size (wire_count (circuit_of b)) (bundle b d) ≡ n
Holds (b, leaks d) = ¬ (Clean (circuit_of b) (bundle b d) d)

abbrev pub accepted : ℕ → ℕ → ℕ → Claim
accepted wires masks latency = judged (Ok (record { wires = wires; masks = masks; latency = latency }))

abbrev pub refused : NetlistFault → Claim
refused f = judged (Err f)

-- in their order: a wiring; its outputs exchanged, so that bundle 0 is a share of domain 1; an idle XOR of both shares of an input;
-- a wiring under a table that is zero; nine MASK cells; one wire too many; a probe that sees one wire too many, and one that sees just enough;
-- GHPC and GHPC_LL of AND; GHPC of PRESENT; GHPC_LL of AND with one mask for all registers; GHPC of AND without the registers after its AND cells
abbrev pub examples : List (Whole × Claim)
examples =
    (wiring [], accepted 2 0 0)
    ∷ (single (0 ∷ 1 ∷ []) [] (1, 0), refused (Leak 2))
    ∷ (wiring (gate Xor 0 0 1 ∷ []), refused (Leak 2))
    ∷ (single (0 ∷ 0 ∷ []) [] (0, 1), refused (Recombination 0))
    ∷ (wiring (replicate 9 (gate Mask 0 0 0)), refused (BlockMasks 10))
    ∷ (wiring (replicate 511 (gate Reg 0 0 0)), refused BlockWires)
    ∷ (joined_registers 65, refused (Breadth 130))
    ∷ (joined_registers 64, accepted 129 0 0)
    ∷ (ghpc_of and_table, accepted 38 1 2)
    ∷ (ghpc_of and_table, filed 495)
    ∷ (ghpc_of and_table, sees 35 (17 ∷ 22 ∷ 27 ∷ 32 ∷ []))
    ∷ (ghpc_of and_table, settles (1 ∷ 0 ∷ 0 ∷ 1 ∷ 1 ∷ []) 37 1)
    ∷ (ghpc_of and_table, settles (1 ∷ 0 ∷ 0 ∷ 1 ∷ 1 ∷ []) 35 0)
    ∷ (low_latency_of and_table, accepted 43 4 1)
    ∷ (ghpc_of present_table, sized 432 4)
    ∷ (ghpc_of present_table, bundled true 64)
    ∷ (one_mask, leaks true)
    ∷ (unregistered, leaks true)
    ∷ []
