use Rattle.value.proofs.LaneLaws.{lowest_lane, xor_lane}
use Rattle.value.proofs.bits.U8WireValue.differ.Goals as goal

pub returns : goal.returns
returns c = lowest_lane _ _ (xor_lane 0 c.args.self c.args.other)
