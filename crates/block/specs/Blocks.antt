-- What a block is: a netlist that also names a truth table and its outputs.
use Rattle.std.specs.Prelude.{◌≡◌, ℕ, ◌^◌, ◌<◌, ◌≤◌, Bool, List, length, slice_index, slice_index_or}
use Rattle.netlist.specs.declared.cell.Cell.{Cell}
use Rattle.netlist.specs.Circuit.{bit}
use Rattle.netlist.specs.Nets.{Net, Lawful, net_wires}

-- n input bits, m output bits, and an entry for each argument; bit i of an argument is input i
pub record Table : Type 0 where
  pub n : ℕ
  pub m : ℕ
  pub entries : List ℕ

-- output c at the argument a is bit c of entry a
abbrev pub output_at : Table → ℕ → ℕ → Bool
output_at t c a = bit (slice_index t.entries a) c

pub record LawfulTable (t : Table) : Type 0 where
  pub some_inputs : 1 ≤ t.n
  pub few_inputs : t.n ≤ 4
  pub some_outputs : 1 ≤ t.m
  pub few_outputs : t.m ≤ 4
  pub whole : length t.entries ≡ 2 ^ t.n
  pub small : (a : ℕ) → a < 2 ^ t.n → slice_index t.entries a < 2 ^ t.m

-- a table, the cells that drive the wires after the shares of its n inputs, and for each output its wire in domain 0 and in domain 1
pub record Whole : Type 0 where
  pub table : Table
  pub cells : List Cell
  pub outputs : List (ℕ × ℕ)

-- the netlist's part of it
abbrev pub net_part : Whole → Net
net_part b = record { inputs = b.table.n; cells = b.cells }

-- the bounds that hold of every block
pub record LawfulBlock (b : Whole) : Type 0 where
  pub table : LawfulTable b.table
  pub net : Lawful (net_part b)
  pub complete : length b.outputs ≡ b.table.m
  pub zeroth : (c : ℕ) → c < b.table.m → (slice_index_or b.outputs c (0, 0)).0 < net_wires (net_part b)
  pub first : (c : ℕ) → c < b.table.m → (slice_index_or b.outputs c (0, 0)).1 < net_wires (net_part b)
