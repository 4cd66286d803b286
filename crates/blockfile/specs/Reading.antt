-- Reading a file front to back: the block, or the first fault. At each field come the cut header, the tag, the length, the cut payload, the values.
use Rattle.std.specs.Prelude.{ℕ, zero, suc, ◌+◌, ◌*◌, ◌^◌, Bool, cond, ◌&&◌, List, [], ◌∷◌, length, take, drop, Ok, Err, Result, ◌==◌, nat_le, nat_lt, slice_index}
use Rattle.fault.specs.declared.FieldFault.{FieldFault}
use Rattle.fault.specs.declared.FieldFault.TheVariants.{Cut, Tag, Length, Value, Trailing}
use Rattle.netlist.specs.declared.cell.Cell.{Cell}
use Rattle.netlist.specs.Cells.{arity, kind_of, table_limit, operand_limit}
use Rattle.block.specs.Blocks.{Whole}

-- one thing after another: the first fault is the answer
abbrev pub and_then : {A B : Type 0} → Result A FieldFault → (A → Result B FieldFault) → Result B FieldFault
and_then (Ok x) next = next x
and_then (Err f) next = Err f

-- the number in two bytes from place i on
abbrev pub pair_at : List ℕ → ℕ → ℕ
pair_at bs i = 256 * slice_index bs i + slice_index bs (suc i)

-- the payload of the field that is due, and what follows it; `at` is the place of the first byte that is left of a file of `total` bytes
abbrev pub opened : ℕ → ℕ → ℕ → ℕ → List ℕ → Result (List ℕ × List ℕ) FieldFault
opened total at tag size [] = Err (Cut total)
opened total at tag size (_ ∷ []) = Err (Cut total)
opened total at tag size (_ ∷ _ ∷ []) = Err (Cut total)
opened total at tag size (t ∷ hi ∷ lo ∷ rest) =
    cond (t == tag)
    (cond (256 * hi + lo == size) (cond (nat_le size (length rest)) (Ok (take size rest, drop size rest)) (Err (Cut total))) (Err (Length (suc at))))
    (Err (Tag at))

-- values in their order, each with its place and whether it is within its bounds: the first that is not
abbrev pub in_bounds : List (ℕ × Bool) → Result (Unit {0}) FieldFault
in_bounds [] = Ok tt
in_bounds (v ∷ vs) = cond v.1 (in_bounds vs) (Err (Value v.0))

abbrev pub one_to_four : ℕ → Bool
one_to_four x = nat_le 1 x && nat_le x 4

-- the entries of a table from place `at` on, each below 2^m
abbrev pub entry_bounds : ℕ → ℕ → List ℕ → List (ℕ × Bool)
entry_bounds m at [] = []
entry_bounds m at (e ∷ es) = (at, nat_lt e (2 ^ m)) ∷ entry_bounds m (suc at) es

abbrev pub cell_from : List ℕ → Cell
cell_from bs = record { kind = kind_of (slice_index bs 0); table = pair_at bs 1; a = pair_at bs 3; b = pair_at bs 5; c = pair_at bs 7; d = pair_at bs 9 }

-- the parts of the cell on wire w, its first byte at place `at`
abbrev pub cell_bounds : ℕ → ℕ → List ℕ → List (ℕ × Bool)
cell_bounds at w bs =
    let x = cell_from bs in
    let n = arity x.kind in
    (at, nat_lt (slice_index bs 0) 9)
    ∷ (at + 1, nat_lt x.table (table_limit x.kind))
    ∷ (at + 3, nat_lt x.a (operand_limit w 0 n))
    ∷ (at + 5, nat_lt x.b (operand_limit w 1 n))
    ∷ (at + 7, nat_lt x.c (operand_limit w 2 n))
    ∷ (at + 9, nat_lt x.d (operand_limit w 3 n))
    ∷ []

-- m output pairs from place i of a payload on, and their bounds: each a wire below w
abbrev pub pairs_from : ℕ → ℕ → List ℕ → List (ℕ × ℕ)
pairs_from zero i bs = []
pairs_from (suc m) i bs = (pair_at bs i, pair_at bs (i + 2)) ∷ pairs_from m (i + 4) bs

abbrev pub pair_bounds : ℕ → ℕ → List (ℕ × ℕ) → List (ℕ × Bool)
pair_bounds w at [] = []
pair_bounds w at (p ∷ ps) = (at, nat_lt p.0 w) ∷ (at + 2, nat_lt p.1 w) ∷ pair_bounds w (at + 4) ps

-- nothing may follow the outputs
abbrev pub ended : ℕ → List ℕ → Result (Unit {0}) FieldFault
ended at [] = Ok tt
ended at (_ ∷ _) = Err (Trailing at)

abbrev pub outputs_read : ℕ → ℕ → ℕ → ℕ → List ℕ → Result (List (ℕ × ℕ)) FieldFault
outputs_read total at w m bytes =
    and_then (opened total at 4 (4 * m) bytes) (λ p.
    and_then (in_bounds (pair_bounds w (at + 3) (pairs_from m 0 p.0))) (λ _.
    and_then (ended (at + 3 + 4 * m) p.1) (λ _. Ok (pairs_from m 0 p.0))))

-- one field for each cell, as long as wires are free; then the outputs. A cell's field has 14 bytes, so as many turns as bytes are enough
abbrev pub body_read : ℕ → ℕ → ℕ → ℕ → ℕ → List ℕ → Result (List Cell × List (ℕ × ℕ)) FieldFault
body_read zero total at w m bytes = Err (Cut total)
body_read (suc turns) total at w m bytes =
    cond (slice_index bytes 0 == 3 && nat_lt w 4096)
    (and_then (opened total at 3 11 bytes) (λ p.
    and_then (in_bounds (cell_bounds (at + 3) w p.0)) (λ _.
    and_then (body_read turns total (at + 14) (suc w) m p.1) (λ q. Ok (cell_from p.0 ∷ q.0, q.1)))))
    (and_then (outputs_read total at w m bytes) (λ o. Ok ([], o)))

abbrev pub block_read : List ℕ → Result Whole FieldFault
block_read bytes =
    and_then (opened (length bytes) 0 1 2 bytes) (λ h.
    and_then (in_bounds ((3, one_to_four (slice_index h.0 0)) ∷ (4, one_to_four (slice_index h.0 1)) ∷ [])) (λ _.
    and_then (opened (length bytes) 5 2 (2 ^ slice_index h.0 0) h.1) (λ e.
    and_then (in_bounds (entry_bounds (slice_index h.0 1) 8 e.0)) (λ _.
    and_then (body_read (length bytes) (length bytes) (8 + 2 ^ slice_index h.0 0) (2 * slice_index h.0 0) (slice_index h.0 1) e.1) (λ b.
    Ok (record { table = record { n = slice_index h.0 0; m = slice_index h.0 1; entries = e.0 }; cells = b.0; outputs = b.1 }))))))
