-- What a person is shown of a kind, of a cell, and of a number that no kind has.
use Rattle.std.specs.Prelude.{ℕ, ◌++◌, false, List, [], take, flat_map, codes, decimal}
use Rattle.std.specs.Fmt.{digits}
use Rattle.netlist.specs.declared.cell.Kind.{Kind}
use Rattle.netlist.specs.declared.cell.Kind.TheVariants.{Mask, Not, And, Xor, Reg, Look1, Look2, Look3, Look4}
use Rattle.netlist.specs.declared.cell.UnknownKind.{UnknownKind}
use Rattle.netlist.specs.declared.cell.Cell.{Cell}
use Rattle.netlist.specs.Cells.{arity, operand_list}

abbrev pub kind_text : Kind → List ℕ
kind_text Mask = codes "mask"
kind_text Not = codes "not"
kind_text And = codes "and"
kind_text Xor = codes "xor"
kind_text Reg = codes "reg"
kind_text Look1 = codes "look"
kind_text Look2 = codes "look"
kind_text Look3 = codes "look"
kind_text Look4 = codes "look"

abbrev pub unknown_kind_text : UnknownKind → List ℕ
unknown_kind_text u = codes "no kind of cell has the number " ++ decimal u.0

abbrev pub hexadecimal : ℕ → List ℕ
hexadecimal n = digits 16 false n

-- the table of a look-up, after a space, in hexadecimal
abbrev pub table_text : Kind → ℕ → List ℕ
table_text Mask table = []
table_text Not table = []
table_text And table = []
table_text Xor table = []
table_text Reg table = []
table_text Look1 table = codes " " ++ hexadecimal table
table_text Look2 table = codes " " ++ hexadecimal table
table_text Look3 table = codes " " ++ hexadecimal table
table_text Look4 table = codes " " ++ hexadecimal table

-- an operand, after a space, in decimal
abbrev pub operand_text : ℕ → List ℕ
operand_text operand = codes " " ++ decimal operand

-- a cell: its kind, its table, and the operands in use
abbrev pub cell_text : Cell → List ℕ
cell_text x = kind_text x.kind ++ (table_text x.kind x.table ++ flat_map operand_text (take (arity x.kind) (operand_list x)))
