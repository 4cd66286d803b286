use Rattle.std.proofs.Common.{refl, ap, ◌∙◌}
use Rattle.blockfile.specs.Views.{viewed}
use Rattle.blockfile.proofs.Accepted.{accepted_lawful, identity_read}
use Rattle.blockfile.proofs.Views.{view_or}
use Rattle.blockfile.proofs.file_view.viewing.view.Goals as goal

pub invariant_of-unwrap_or : goal.invariant_of-unwrap_or
invariant_of-unwrap_or c = record { accepted = refl; whole = accepted_lawful _ refl }

pub returns : goal.returns
returns c = ap viewed c.unwrap_or.ensures ∙ view_or c.args.bytes.now c.try_from.result _ c.try_from.ensures identity_read
