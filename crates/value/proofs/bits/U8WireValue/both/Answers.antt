use Rattle.value.proofs.LaneLaws.{lowest_lane, and_lane}
use Rattle.value.proofs.bits.U8WireValue.both.Goals as goal

pub returns : goal.returns
returns c = lowest_lane _ _ (and_lane 0 c.args.self c.args.other)
