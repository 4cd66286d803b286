-- The file of a block: fields, each with a tag, a length of two bytes and a payload.
use Rattle.std.specs.Prelude.{ℕ, ◌/◌, ◌%◌, List, [], ◌∷◌, ◌++◌, length}
use Rattle.netlist.specs.declared.cell.Cell.{Cell}
use Rattle.netlist.specs.Cells.{kind_number}
use Rattle.block.specs.Blocks.{Whole}

-- a number in two bytes, the high one first
abbrev pub two : ℕ → List ℕ
two x = x / 256 ∷ x % 256 ∷ []

abbrev pub field : ℕ → List ℕ → List ℕ
field tag payload = tag ∷ (two (length payload) ++ payload)

-- a cell: its kind, its table and its four operands
abbrev pub cell_bytes : Cell → List ℕ
cell_bytes x = kind_number x.kind ∷ (two x.table ++ (two x.a ++ (two x.b ++ (two x.c ++ two x.d))))

abbrev pub cell_fields : List Cell → List ℕ
cell_fields [] = []
cell_fields (x ∷ xs) = field 3 (cell_bytes x) ++ cell_fields xs

-- for each output its wire in domain 0, then in domain 1
abbrev pub pair_bytes : List (ℕ × ℕ) → List ℕ
pair_bytes [] = []
pair_bytes (p ∷ ps) = two p.0 ++ (two p.1 ++ pair_bytes ps)

-- the sizes, the table's entries, the cells, the outputs
abbrev pub file_of : Whole → List ℕ
file_of b = field 1 (b.table.n ∷ b.table.m ∷ []) ++ (field 2 b.table.entries ++ (cell_fields b.cells ++ field 4 (pair_bytes b.outputs)))
