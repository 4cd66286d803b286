use Rattle.std.proofs.Common.{◌+◌, ◌^◌, ap, ◌∙◌}
use Rattle.blockfile.proofs.Accepted.{accepted_layout}
use Rattle.blockfile.proofs.file_view.FileView.body.Goals as goal

pub returns : goal.returns
returns c = let v = c.args.self.now in ap (λ n. 8 + n) (c.power_of_two.ensures ∙ ap (λ n. 2 ^ n) (accepted_layout v.bytes.now v.accepted).inputs)
