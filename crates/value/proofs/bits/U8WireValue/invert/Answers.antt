use Rattle.value.proofs.LaneLaws.{lowest_not}
use Rattle.value.proofs.bits.U8WireValue.invert.Goals as goal

pub returns : goal.returns
returns c = lowest_not c.args.self
