use Rattle.std.proofs.Common.{◌∙◌}
use Rattle.blockfile.proofs.Accepted.{accepted_layout}
use Rattle.blockfile.proofs.file_view.viewing.FileViewBlock.outputs.Goals as goal

pub returns : goal.returns
returns c = let v = c.args.self.now in c.from.ensures ∙ (accepted_layout v.bytes.now v.accepted).outputs
