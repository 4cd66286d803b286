use Rattle.std.proofs.Common.{lit<}
use Rattle.std.proofs.lemmas.Nat.{xor_lt}
use Rattle.value.proofs.LaneLaws.{by_lanes, not_lane}
use Rattle.value.proofs.lanes.U64WireValue.invert.Goals as goal

pub returns : goal.returns
returns c = by_lanes 64 _ _ (xor_lt 64 c.args.self 18446744073709551615 c.ranges.self.fits (lit< tt)) (λ j h. not_lane j c.args.self h)
