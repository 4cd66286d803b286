-- Worked examples: blocks with the verdict on each.
use Rattle.std.specs.Prelude.{◌≡◌, ℕ, ◌+◌, ◌*◌, ◌^◌, List, [], ◌∷◌, ◌++◌, map, replicate, Ok, Err, Result}
use Rattle.std.specs.List.{range_with_len, AllByRecursion}
use Rattle.fault.specs.declared.NetlistFault.{NetlistFault}
use Rattle.fault.specs.declared.NetlistFault.TheVariants.{BlockWires, BlockMasks, Recombination, Breadth, Leak}
use Rattle.netlist.specs.declared.cell.Kind.{Kind}
use Rattle.netlist.specs.declared.cell.Kind.TheVariants.{Mask, And, Xor, Reg, Look2, Look4}
use Rattle.netlist.specs.declared.cell.Cell.{Cell}
use Rattle.block.specs.Blocks.{Whole}
use Rattle.verdict.specs.declared.Acceptance.{Acceptance}
use Rattle.verdict.specs.Verdict.{verdict}

abbrev pub gate : Kind → ℕ → ℕ → ℕ → Cell
gate kind table a b = record { kind = kind; table = table; a = a; b = b; c = 0; d = 0 }

-- a block of one input and one output
abbrev pub single : List ℕ → List Cell → ℕ × ℕ → Whole
single entries cells o = record { table = record { n = 1; m = 1; entries = entries }; cells = cells; outputs = o ∷ [] }

-- one that hands its input on, with idle cells
abbrev pub wiring : List Cell → Whole
wiring cells = single (0 ∷ 1 ∷ []) cells (0, 1)

abbrev pub accepted : ℕ → ℕ → ℕ → Result Acceptance NetlistFault
accepted wires masks latency = Ok (record { wires = wires; masks = masks; latency = latency })

-- the masked AND of two inputs, 38 wires and one MASK: look-ups over domain 1 select, those over domain 0 are masked
abbrev pub select : ℕ → List Cell
select i = gate Look2 (2 ^ i) 1 3 ∷ gate Reg 0 (5 + 2 * i) 0 ∷ []

abbrev pub product : ℕ → ℕ → List Cell
product i t =
    gate Look2 t 0 2 ∷ gate Xor 0 (13 + 5 * i) 4 ∷ gate Reg 0 (14 + 5 * i) 0 ∷ gate And 0 (6 + 2 * i) (15 + 5 * i) ∷ gate Reg 0 (16 + 5 * i) 0 ∷ []

abbrev pub masked_and : Whole
masked_and = record {
  table = record { n = 2; m = 1; entries = 0 ∷ 0 ∷ 0 ∷ 1 ∷ [] };
  cells = (gate Mask 0 0 0 ∷ []) ++ select 0 ++ select 1 ++ select 2 ++ select 3 ++ product 0 8 ++ product 1 4 ++ product 2 2 ++ product 3 1
      ++ (gate Xor 0 17 22 ∷ gate Xor 0 33 27 ∷ gate Xor 0 34 32 ∷ gate Reg 0 4 0 ∷ gate Reg 0 36 0 ∷ []);
  outputs = (37, 35) ∷ [];
}

-- 65 registers of share 0 on wires 2 to 66, and look-ups that gather them: 4 on wire 67, 3 more on each wire after it, all 65 on wire 88
abbrev pub gather : ℕ → Cell
gather i = record { kind = Look4; table = 32768; a = 66 + i; b = 2 + 3 * i; c = 3 + 3 * i; d = 4 + 3 * i }

abbrev pub broad : List Cell
broad = replicate 65 (gate Reg 0 0 0) ++ map gather (range_with_len 0 21) ++ (gate And 0 87 65 ∷ [])

-- in their order: a wiring; its outputs exchanged, so that bundle 0 is a share of domain 1; an idle XOR of both shares of an input;
-- a wiring under a table that is zero; nine MASK cells; one wire too many;
-- a probe that sees one wire too many; the masked AND
abbrev pub examples : List (Whole × Result Acceptance NetlistFault)
examples =
    (wiring [], accepted 2 0 0)
    ∷ (single (0 ∷ 1 ∷ []) [] (1, 0), Err (Leak 2))
    ∷ (wiring (gate Xor 0 0 1 ∷ []), Err (Leak 2))
    ∷ (single (0 ∷ 0 ∷ []) [] (0, 1), Err (Recombination 0))
    ∷ (wiring (replicate 9 (gate Mask 0 0 0)), Err (BlockMasks 10))
    ∷ (wiring (replicate 511 (gate Reg 0 0 0)), Err BlockWires)
    ∷ (wiring broad, Err (Breadth 88))
    ∷ (masked_and, accepted 38 1 2)
    ∷ []

abbrev pub VerdictsAsListed : Type 0
VerdictsAsListed = AllByRecursion (λ e. verdict e.0 ≡ e.1) examples
