-- What checking a file answers: its reading, without the block.
use Rattle.std.specs.Prelude.{ℕ, List, Ok, Err, Result}
use Rattle.fault.specs.declared.FieldFault.{FieldFault}
use Rattle.blockfile.specs.Reading.{block_read}

abbrev pub Answer : Type 0
Answer = Result (Unit {0}) FieldFault

-- that it went well, or the same fault
abbrev pub forget : {A : Type 0} → Result A FieldFault → Answer
forget (Ok _) = Ok tt
forget (Err f) = Err f

-- what `check` answers
abbrev pub file_answer : List ℕ → Answer
file_answer bytes = forget (block_read bytes)
