-- Blocks to work out: small ones, those of the two constructions, and two that leave out what keeps them clean.
use Rattle.std.specs.Prelude.{ℕ, ◌+◌, ◌-◌, ◌*◌, ◌^◌, cond, ◌&&◌, List, [], ◌∷◌, ◌++◌, map, replicate, nat_le}
use Rattle.std.specs.List.{range_with_len}
use Rattle.netlist.specs.declared.cell.Kind.{Kind}
use Rattle.netlist.specs.declared.cell.Kind.TheVariants.{Mask, And, Xor, Reg, Look2}
use Rattle.netlist.specs.declared.cell.Cell.{Cell}
use Rattle.block.specs.Blocks.{Table, Whole}
use Rattle.constructions.specs.LowLatency.{low_latency_of}

abbrev pub gate : Kind → ℕ → ℕ → ℕ → Cell
gate kind table a b = record { kind = kind; table = table; a = a; b = b; c = 0; d = 0 }

-- a block of one input and one output
abbrev pub single : List ℕ → List Cell → ℕ × ℕ → Whole
single entries cells o = record { table = record { n = 1; m = 1; entries = entries }; cells = cells; outputs = o ∷ [] }

-- one that hands its input on, with idle cells
abbrev pub wiring : List Cell → Whole
wiring cells = single (0 ∷ 1 ∷ []) cells (0, 1)

-- k registers of share 0 on the wires from 2 on, and XOR cells that join them in order
abbrev pub joined_registers : ℕ → Whole
joined_registers k = wiring (replicate k (gate Reg 0 0 0) ++ (gate Xor 0 2 3 ∷ map (λ j. gate Xor 0 (2 + k + j) (4 + j)) (range_with_len 0 (k - 2))))

-- two-input AND
abbrev pub and_table : Table
and_table = record { n = 2; m = 1; entries = 0 ∷ 0 ∷ 0 ∷ 1 ∷ [] }

-- the PRESENT S-box
abbrev pub present_table : Table
present_table = record { n = 4; m = 4; entries = 12 ∷ 5 ∷ 6 ∷ 11 ∷ 9 ∷ 0 ∷ 10 ∷ 13 ∷ 3 ∷ 14 ∷ 15 ∷ 8 ∷ 4 ∷ 7 ∷ 1 ∷ 2 ∷ [] }

-- GHPC_LL of AND with one mask for all registers: its masks stand on the wires 4 to 7, and 4 serves for each of them
abbrev pub shared_mask : ℕ → ℕ
shared_mask w = cond (nat_le 4 w && nat_le w 7) 4 w

abbrev pub with_shared_mask : Cell → Cell
with_shared_mask x = record { kind = x.kind; table = x.table; a = shared_mask x.a; b = shared_mask x.b; c = x.c; d = x.d }

abbrev pub one_mask : Whole
one_mask = record { table = and_table; cells = map with_shared_mask (low_latency_of and_table).cells; outputs = (low_latency_of and_table).outputs }

-- GHPC of AND without the register after its AND cells: the mask on wire 4, selectors from 5 on, products from 13 on, and the XOR cells join the AND cells
abbrev pub select : ℕ → List Cell
select i = gate Look2 (2 ^ i) 1 3 ∷ gate Reg 0 (5 + 2 * i) 0 ∷ []

abbrev pub product : ℕ → ℕ → List Cell
product i t = gate Look2 t 0 2 ∷ gate Xor 0 (13 + 4 * i) 4 ∷ gate Reg 0 (14 + 4 * i) 0 ∷ gate And 0 (6 + 2 * i) (15 + 4 * i) ∷ []

abbrev pub unregistered : Whole
unregistered = record {
  table = and_table;
  cells = (gate Mask 0 0 0 ∷ []) ++ select 0 ++ select 1 ++ select 2 ++ select 3 ++ product 0 8 ++ product 1 4 ++ product 2 2 ++ product 3 1
      ++ (gate Xor 0 16 20 ∷ gate Xor 0 29 24 ∷ gate Xor 0 30 28 ∷ gate Reg 0 4 0 ∷ gate Reg 0 32 0 ∷ []);
  outputs = (33, 31) ∷ [];
}
