-- The block that bytes stand for.
use Rattle.std.specs.Prelude.{ℕ, List, [], ◌∷◌, Ok, Err, Result}
use Rattle.fault.specs.declared.FieldFault.{FieldFault}
use Rattle.block.specs.Blocks.{Whole}
use Rattle.blockfile.specs.Reading.{block_read}

-- one input, which is the output
abbrev pub identity_block : Whole
identity_block = record { table = record { n = 1; m = 1; entries = 0 ∷ 1 ∷ [] }; cells = []; outputs = (0, 1) ∷ [] }

abbrev pub or_identity : Result Whole FieldFault → Whole
or_identity (Ok b) = b
or_identity (Err _) = identity_block

-- the block that is read, and the identity where none is
unfoldable pub block_in : List ℕ → Whole
block_in bytes = or_identity (block_read bytes)
