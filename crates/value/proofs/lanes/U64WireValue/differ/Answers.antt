use Rattle.std.proofs.lemmas.Nat.{xor_lt}
use Rattle.value.proofs.LaneLaws.{by_lanes, xor_lane}
use Rattle.value.proofs.lanes.U64WireValue.differ.Goals as goal

pub returns : goal.returns
returns c = by_lanes 64 _ _ (xor_lt 64 c.args.self c.args.other c.ranges.self.fits c.ranges.other.fits) (λ j h. xor_lane j c.args.self c.args.other)
