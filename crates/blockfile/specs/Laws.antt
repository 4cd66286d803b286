-- What holds of files and blocks.
use Rattle.std.specs.Prelude.{◌≡◌, ℕ, ◌<◌, ◌⊎◌, List, length, Ok, Err, ◌≢◌, slice_index}
use Rattle.fault.specs.declared.FieldFault.{FieldFault}
use Rattle.block.specs.Blocks.{Whole, LawfulBlock}
use Rattle.blockfile.specs.Format.{file_of}
use Rattle.blockfile.specs.Reading.{block_read}

-- every number is a byte
abbrev pub Bytes : List ℕ → Type 0
Bytes bs = (k : ℕ) → k < length bs → slice_index bs k < 256

-- what is written is read back
abbrev pub WrittenIsRead : Type 0
WrittenIsRead = (b : Whole) → LawfulBlock b → block_read (file_of b) ≡ Ok b

-- what is read is what would be written: a block has no other file
abbrev pub ReadIsWritten : Type 0
ReadIsWritten = (bytes : List ℕ) (b : Whole) → Bytes bytes → block_read bytes ≡ Ok b → file_of b ≡ bytes

-- all bounds hold of a block that is read
abbrev pub ReadIsLawful : Type 0
ReadIsLawful = (bytes : List ℕ) (b : Whole) → block_read bytes ≡ Ok b → LawfulBlock b

-- two blocks have two files
abbrev pub OneFileEach : Type 0
OneFileEach = (a b : Whole) → LawfulBlock a → LawfulBlock b → file_of a ≡ file_of b → a ≡ b

-- bytes are accepted or refused, not both; as one block, or with one cause and place
pub record OneAnswer (bytes : List ℕ) : Type 0 where
  pub either : ((b : Whole) × (block_read bytes ≡ Ok b)) ⊎ ((f : FieldFault) × (block_read bytes ≡ Err f))
  pub not_both : (b : Whole) (f : FieldFault) → block_read bytes ≡ Ok b → block_read bytes ≢ Err f
  pub one_block : (a b : Whole) → block_read bytes ≡ Ok a → block_read bytes ≡ Ok b → a ≡ b
  pub one_fault : (f g : FieldFault) → block_read bytes ≡ Err f → block_read bytes ≡ Err g → f ≡ g

abbrev pub OneAnswerEach : Type 0
OneAnswerEach = (bytes : List ℕ) → OneAnswer bytes
