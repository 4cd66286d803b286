use Rattle.std.proofs.Common.{arith}
use Rattle.std.proofs.lemmas.Nat.{and_le_l}
use Rattle.value.proofs.LaneLaws.{by_lanes, and_lane}
use Rattle.value.proofs.lanes.U64WireValue.both.Goals as goal

pub returns : goal.returns
returns c = by_lanes 64 _ _ (omega (arith, and_le_l c.args.self c.args.other)) (λ j h. and_lane j c.args.self c.args.other)
