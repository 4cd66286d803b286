-- Files worked out by hand: one that is accepted, and damaged ones.
use Rattle.std.specs.Prelude.{◌≡◌, ℕ, List, [], ◌∷◌, ◌++◌, Ok, Err}
use Rattle.fault.specs.declared.FieldFault.{FieldFault}
use Rattle.fault.specs.declared.FieldFault.TheVariants.{Cut, Tag, Length, Value, Trailing}
use Rattle.blockfile.specs.Format.{file_of}
use Rattle.blockfile.specs.Answers.{Answer, file_answer}
use Rattle.blockfile.specs.Viewing.{identity_block}

-- the file of one bit that passes through
abbrev pub identity_file : List ℕ
identity_file = 1 ∷ 0 ∷ 2 ∷ 1 ∷ 1 ∷ 2 ∷ 0 ∷ 2 ∷ 0 ∷ 1 ∷ 4 ∷ 0 ∷ 4 ∷ 0 ∷ 0 ∷ 0 ∷ 1 ∷ []

-- a file with these sizes and entries, and what comes behind
abbrev pub behind_table : List ℕ → List ℕ
behind_table rest = 1 ∷ 0 ∷ 2 ∷ 1 ∷ 1 ∷ 2 ∷ 0 ∷ 2 ∷ 0 ∷ 1 ∷ rest

-- the same with one cell, and the identity's outputs behind it
abbrev pub with_cell : List ℕ → List ℕ
with_cell bytes = behind_table (3 ∷ 0 ∷ 11 ∷ (bytes ++ (4 ∷ 0 ∷ 4 ∷ 0 ∷ 0 ∷ 0 ∷ 1 ∷ [])))

-- a file and the answer that checking it gives
pub record Example : Type 0 where
  pub file : List ℕ
  pub answer : Answer

abbrev pub refused_as : List ℕ → FieldFault → Example
refused_as bytes f = record { file = bytes; answer = Err f }

abbrev pub accepted : List ℕ → Example
accepted bytes = record { file = bytes; answer = Ok tt }

abbrev pub examples : List Example
examples =
    accepted identity_file
    -- an XOR of both shares
    ∷ accepted (with_cell (3 ∷ 0 ∷ 0 ∷ 0 ∷ 0 ∷ 0 ∷ 1 ∷ 0 ∷ 0 ∷ 0 ∷ 0 ∷ []))
    -- nothing; a cut header, though its tag is wrong; a cut payload
    ∷ refused_as [] (Cut 0)
    ∷ refused_as (9 ∷ 0 ∷ []) (Cut 2)
    ∷ refused_as (1 ∷ 0 ∷ 2 ∷ 1 ∷ []) (Cut 4)
    -- a tag that is not due, before its length; a length, before the payload's cut
    ∷ refused_as (2 ∷ 0 ∷ 9 ∷ 1 ∷ 1 ∷ []) (Tag 0)
    ∷ refused_as (1 ∷ 0 ∷ 9 ∷ 1 ∷ []) (Length 1)
    -- sizes out of bounds, before the next header
    ∷ refused_as (1 ∷ 0 ∷ 2 ∷ 0 ∷ 9 ∷ []) (Value 3)
    ∷ refused_as (1 ∷ 0 ∷ 2 ∷ 1 ∷ 5 ∷ []) (Value 4)
    -- an entry of 2^m
    ∷ refused_as (1 ∷ 0 ∷ 2 ∷ 1 ∷ 1 ∷ 2 ∷ 0 ∷ 2 ∷ 0 ∷ 2 ∷ []) (Value 9)
    -- a tag that no field has
    ∷ refused_as (behind_table (5 ∷ 0 ∷ 4 ∷ 0 ∷ 0 ∷ 0 ∷ 1 ∷ [])) (Tag 10)
    -- no such kind; a NOT of its own wire; a NOT with a table; a look-up of one operand with a bit too high; a second operand that is not used
    ∷ refused_as (with_cell (9 ∷ 0 ∷ 0 ∷ 0 ∷ 0 ∷ 0 ∷ 0 ∷ 0 ∷ 0 ∷ 0 ∷ 0 ∷ [])) (Value 13)
    ∷ refused_as (with_cell (1 ∷ 0 ∷ 0 ∷ 0 ∷ 2 ∷ 0 ∷ 0 ∷ 0 ∷ 0 ∷ 0 ∷ 0 ∷ [])) (Value 16)
    ∷ refused_as (with_cell (1 ∷ 0 ∷ 1 ∷ 0 ∷ 0 ∷ 0 ∷ 0 ∷ 0 ∷ 0 ∷ 0 ∷ 0 ∷ [])) (Value 14)
    ∷ refused_as (with_cell (5 ∷ 0 ∷ 4 ∷ 0 ∷ 0 ∷ 0 ∷ 0 ∷ 0 ∷ 0 ∷ 0 ∷ 0 ∷ [])) (Value 14)
    ∷ refused_as (with_cell (4 ∷ 0 ∷ 0 ∷ 0 ∷ 0 ∷ 0 ∷ 1 ∷ 0 ∷ 0 ∷ 0 ∷ 0 ∷ [])) (Value 18)
    -- an output on a wire that is not there; a byte behind the last field
    ∷ refused_as (behind_table (4 ∷ 0 ∷ 4 ∷ 0 ∷ 0 ∷ 0 ∷ 2 ∷ [])) (Value 15)
    ∷ refused_as (identity_file ++ (0 ∷ [])) (Trailing 17)
    ∷ []

abbrev pub Holds : Example → Type 0
Holds e = file_answer e.file ≡ e.answer

abbrev pub AllHold : List Example → Type 0
AllHold [] = Unit {0}
AllHold (e ∷ es) = Holds e × AllHold es

-- every file is answered as worked out, and the identity block's file is the one given
pub record Worked : Type 0 where
  pub files : AllHold examples
  pub identity : file_of identity_block ≡ identity_file
