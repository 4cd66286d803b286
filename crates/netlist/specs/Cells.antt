-- The nine kinds of cell, what drives a wire through each, and which cells may drive a wire.
use Rattle.std.specs.Prelude.{ℕ, ◌<◌, cond, List, [], ◌∷◌, Ok, Err, Result, nat_lt, slice_index_or}
use Rattle.netlist.specs.declared.cell.Kind.{Kind}
use Rattle.netlist.specs.declared.cell.UnknownKind.{UnknownKind}
use Rattle.netlist.specs.declared.cell.Kind.TheVariants.{Mask, Not, And, Xor, Reg, Look1, Look2, Look3, Look4}
use Rattle.netlist.specs.declared.cell.Cell.{Cell}
use Rattle.netlist.specs.Circuit.{Driver, fresh, stored, looked}

-- NOT, AND and XOR are look-ups with tables 1, 8 and 6
abbrev pub driver_of : Kind → ℕ → ℕ → ℕ → ℕ → ℕ → Driver
driver_of Mask t a b c d = fresh
driver_of Not t a b c d = looked 1 (a ∷ [])
driver_of And t a b c d = looked 8 (a ∷ b ∷ [])
driver_of Xor t a b c d = looked 6 (a ∷ b ∷ [])
driver_of Reg t a b c d = stored a
driver_of Look1 t a b c d = looked t (a ∷ [])
driver_of Look2 t a b c d = looked t (a ∷ b ∷ [])
driver_of Look3 t a b c d = looked t (a ∷ b ∷ c ∷ [])
driver_of Look4 t a b c d = looked t (a ∷ b ∷ c ∷ d ∷ [])

abbrev pub driver : Cell → Driver
driver x = driver_of x.kind x.table x.a x.b x.c x.d

-- how many operands a kind has
abbrev pub arity : Kind → ℕ
arity Mask = 0
arity Not = 1
arity And = 2
arity Xor = 2
arity Reg = 1
arity Look1 = 1
arity Look2 = 2
arity Look3 = 3
arity Look4 = 4

-- the operands of a cell, used or not
abbrev pub operand_list : Cell → List ℕ
operand_list x = x.a ∷ x.b ∷ x.c ∷ x.d ∷ []

-- the number of a kind, and the kind of a number
abbrev pub kind_number : Kind → ℕ
kind_number Mask = 0
kind_number Not = 1
kind_number And = 2
kind_number Xor = 3
kind_number Reg = 4
kind_number Look1 = 5
kind_number Look2 = 6
kind_number Look3 = 7
kind_number Look4 = 8

abbrev pub kind_of : ℕ → Kind
kind_of k = slice_index_or (Mask ∷ Not ∷ And ∷ Xor ∷ Reg ∷ Look1 ∷ Look2 ∷ Look3 ∷ []) k Look4

abbrev pub decoded : ℕ → Result Kind UnknownKind
decoded k = cond (nat_lt k 9) (Ok (kind_of k)) (Err (record { 0 = k }))

-- what a table stays below: 2^(2^n) for a look-up of n operands; elsewhere it is unused, and zero
abbrev pub table_limit : Kind → ℕ
table_limit Mask = 1
table_limit Not = 1
table_limit And = 1
table_limit Xor = 1
table_limit Reg = 1
table_limit Look1 = 4
table_limit Look2 = 16
table_limit Look3 = 256
table_limit Look4 = 65536

-- what operand t of n stays below on wire w: the wire itself, or 1 where it is unused, and zero
abbrev pub operand_limit : ℕ → ℕ → ℕ → ℕ
operand_limit w t n = cond (nat_lt t n) w 1

-- a cell that may drive wire w
abbrev pub Fits : ℕ → Cell → Type 0
Fits w x =
    (x.table < table_limit x.kind)
    × (x.a < operand_limit w 0 (arity x.kind))
    × (x.b < operand_limit w 1 (arity x.kind))
    × (x.c < operand_limit w 2 (arity x.kind))
    × (x.d < operand_limit w 3 (arity x.kind))

abbrev pub no_cell : Cell
no_cell = record { kind = Mask; table = 0; a = 0; b = 0; c = 0; d = 0 }

-- a cell with no table and at most two operands
abbrev pub gate_of : Kind → ℕ → ℕ → Cell
gate_of kind a b = record { kind = kind; table = 0; a = a; b = b; c = 0; d = 0 }
