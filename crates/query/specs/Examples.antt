-- Small netlists worked out by hand.
use Rattle.std.specs.Prelude.{◌≡◌, ℕ, List, [], ◌∷◌}
use Rattle.netlist.specs.declared.cell.Kind.{Kind}
use Rattle.netlist.specs.declared.cell.Kind.TheVariants.{Mask, Not, And, Xor, Reg, Look1, Look2, Look3, Look4}
use Rattle.netlist.specs.declared.cell.Cell.{Cell}
use Rattle.netlist.specs.Circuit.{register_counts}
use Rattle.netlist.specs.Nets.{Net, circuit}
use Rattle.query.specs.Answers.{settled_bytes, probe_bytes}

abbrev pub cell : Kind → ℕ → ℕ → ℕ → ℕ → ℕ → Cell
cell k t a b c d = record { kind = k; table = t; a = a; b = b; c = c; d = d }

-- a netlist, the bytes given, and what all wires settle to, what a probe on one wire sees, and the register counts
pub record Example : Type 0 where
  pub net : Net
  pub given : List ℕ
  pub settles : List ℕ
  pub wire : ℕ
  pub sees : List ℕ
  pub registers : List ℕ

abbrev pub Holds : Example → Type 0
Holds e =
    (settled_bytes (circuit e.net) e.given ≡ e.settles)
    × (probe_bytes (circuit e.net) e.wire ≡ e.sees)
    × (register_counts (circuit e.net) ≡ e.registers)

abbrev pub AllHold : List Example → Type 0
AllHold [] = Unit {0}
AllHold (e ∷ es) = Holds e × AllHold es

-- wires that pass straight through, and an XOR of both shares that nothing uses
abbrev pub idle_xor : Example
idle_xor = record {
  net = record { inputs = 1; cells = cell Xor 0 0 1 0 0 ∷ [] };
  given = 1 ∷ 0 ∷ [];
  settles = 1 ∷ 0 ∷ 1 ∷ [];
  wire = 2;
  sees = 1 ∷ 1 ∷ 0 ∷ [];
  registers = 0 ∷ 0 ∷ 0 ∷ [];
}

-- a probe on wire 4 sees the register on wire 3, and not what lies behind it
abbrev pub stopped_probe : Example
stopped_probe = record {
  net = record { inputs = 1; cells = cell Xor 0 0 1 0 0 ∷ cell Reg 0 2 0 0 0 ∷ cell Xor 0 3 0 0 0 ∷ [] };
  given = 1 ∷ 1 ∷ [];
  settles = 1 ∷ 1 ∷ 0 ∷ 0 ∷ 1 ∷ [];
  wire = 4;
  sees = 1 ∷ 0 ∷ 0 ∷ 1 ∷ 0 ∷ [];
  registers = 0 ∷ 0 ∷ 0 ∷ 1 ∷ 1 ∷ [];
}

abbrev pub inverter : Example
inverter = record {
  net = record { inputs = 1; cells = cell Not 0 0 0 0 0 ∷ [] };
  given = 0 ∷ 1 ∷ [];
  settles = 0 ∷ 1 ∷ 1 ∷ [];
  wire = 2;
  sees = 1 ∷ 0 ∷ 0 ∷ [];
  registers = 0 ∷ 0 ∷ 0 ∷ [];
}

-- table 2 has bit 1 set alone
abbrev pub look_of_one : Example
look_of_one = record {
  net = record { inputs = 1; cells = cell Look1 2 0 0 0 0 ∷ [] };
  given = 1 ∷ 0 ∷ [];
  settles = 1 ∷ 0 ∷ 1 ∷ [];
  wire = 2;
  sees = 1 ∷ 0 ∷ 0 ∷ [];
  registers = 0 ∷ 0 ∷ 0 ∷ [];
}

-- table 4 has bit 2 set alone: operand 0 is 0 and operand 1 is 1
abbrev pub look_of_two : Example
look_of_two = record {
  net = record { inputs = 1; cells = cell Look2 4 0 1 0 0 ∷ [] };
  given = 0 ∷ 1 ∷ [];
  settles = 0 ∷ 1 ∷ 1 ∷ [];
  wire = 2;
  sees = 1 ∷ 1 ∷ 0 ∷ [];
  registers = 0 ∷ 0 ∷ 0 ∷ [];
}

-- table 64 has bit 6 set alone: operands 1 and 2 are 1
abbrev pub look_of_three : Example
look_of_three = record {
  net = record { inputs = 2; cells = cell Look3 64 3 1 0 0 ∷ [] };
  given = 1 ∷ 1 ∷ 0 ∷ 0 ∷ [];
  settles = 1 ∷ 1 ∷ 0 ∷ 0 ∷ 1 ∷ [];
  wire = 4;
  sees = 1 ∷ 1 ∷ 0 ∷ 1 ∷ 0 ∷ [];
  registers = 0 ∷ 0 ∷ 0 ∷ 0 ∷ 0 ∷ [];
}

-- table 2 over the wires in falling order: wire 3 alone is 1
abbrev pub look_of_four : Example
look_of_four = record {
  net = record { inputs = 2; cells = cell Look4 2 3 2 1 0 ∷ [] };
  given = 0 ∷ 0 ∷ 0 ∷ 1 ∷ [];
  settles = 0 ∷ 0 ∷ 0 ∷ 1 ∷ 1 ∷ [];
  wire = 4;
  sees = 1 ∷ 1 ∷ 1 ∷ 1 ∷ 0 ∷ [];
  registers = 0 ∷ 0 ∷ 0 ∷ 0 ∷ 0 ∷ [];
}

-- a masked share through two registers in a row, and an AND with the mask
abbrev pub two_registers : Example
two_registers = record {
  net = record { inputs = 1; cells = cell Mask 0 0 0 0 0 ∷ cell Xor 0 0 2 0 0 ∷ cell Reg 0 3 0 0 0 ∷ cell Reg 0 4 0 0 0 ∷ cell And 0 5 2 0 0 ∷ [] };
  given = 1 ∷ 0 ∷ 1 ∷ [];
  settles = 1 ∷ 0 ∷ 1 ∷ 0 ∷ 0 ∷ 0 ∷ 0 ∷ [];
  wire = 6;
  sees = 0 ∷ 0 ∷ 1 ∷ 0 ∷ 0 ∷ 1 ∷ 0 ∷ [];
  registers = 0 ∷ 0 ∷ 0 ∷ 0 ∷ 1 ∷ 2 ∷ 2 ∷ [];
}

abbrev pub examples : List Example
examples = idle_xor ∷ stopped_probe ∷ inverter ∷ look_of_one ∷ look_of_two ∷ look_of_three ∷ look_of_four ∷ two_registers ∷ []
