-- The lines that a person is shown.
use Rattle.std.specs.Prelude.{ℕ, List, ◌++◌, length, Result, Ok, Err, codes, decimal}
use Rattle.fault.specs.declared.FieldFault.{FieldFault}
use Rattle.fault.specs.Faults.{field_report, refusal_line}

-- whether a file is accepted, or why it is refused
abbrev pub check_text : Result Unit FieldFault → List ℕ
check_text (Ok _) = codes "accepted"
check_text (Err f) = refusal_line (field_report f)

-- a label and what follows it
abbrev pub labelled_line : List ℕ → List ℕ → List ℕ
labelled_line label text = label ++ (codes ": " ++ (text ++ codes "\n"))

-- a file that was written back as the same bytes
abbrev pub same_text : List ℕ → List ℕ
same_text file = decimal (length file) ++ codes ", the same bytes"
