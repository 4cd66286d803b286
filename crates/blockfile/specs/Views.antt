-- What a view of a file means: the block that its bytes stand for.
use Rattle.std.specs.Prelude.{List, ℕ, Ok, Err, Result, MatchResult}
use Rattle.std.proofs.Common.{◌≡◌, refl}
use Rattle.fault.specs.declared.FieldFault.{FieldFault}
use Rattle.netlist.specs.Nets.{Net, Lawful}
use Rattle.block.specs.Blocks.{Whole, LawfulBlock, net_part}
use Rattle.blockfile.specs.declared.file_view.FileView.{FileView}
use Rattle.blockfile.specs.Reading.{block_read}
use Rattle.blockfile.specs.Viewing.{block_in}

abbrev pub viewed : FileView → Whole
viewed v = block_in v.bytes.now

abbrev pub viewed_net : FileView → Net
viewed_net v = net_part (viewed v)

-- the view of the block that is read, or the fault where none is
abbrev pub IsViewOf : List ℕ → Result FileView FieldFault → Type 0
IsViewOf bytes r = MatchResult r (λ v. block_read bytes ≡ Ok (viewed v)) (λ f. block_read bytes ≡ Err f)

pub viewed_part : (v : FileView) → viewed_net v ≡ net_part (viewed v)
viewed_part v = refl

pub viewed_lawful : (v : FileView) → LawfulBlock (viewed v)
viewed_lawful v = v.whole

pub viewed_net_lawful : (v : FileView) → Lawful (viewed_net v)
viewed_net_lawful v = (viewed_lawful v).net
