-- The view where there is one, and the identity's where there is none.
use Rattle.std.proofs.Common.{◌≡◌, ℕ, List, Ok, Err, Result, sym, ap, ◌∙◌}
use Rattle.std.specs.Result.{result_unwrap_or}
use Rattle.fault.specs.declared.FieldFault.{FieldFault}
use Rattle.blockfile.specs.declared.file_view.FileView.{FileView}
use Rattle.blockfile.specs.Viewing.{identity_block, or_identity, block_in}
use Rattle.blockfile.specs.Views.{viewed, IsViewOf}

pub view_or : (bytes : List ℕ) (r : Result FileView FieldFault) (v : FileView) → IsViewOf bytes r → viewed v ≡ identity_block → viewed (result_unwrap_or r v) ≡ block_in bytes
unfolding block_in
view_or bytes (Ok w) v is e = sym (ap or_identity is)
view_or bytes (Err f) v is e = e ∙ sym (ap or_identity is)
