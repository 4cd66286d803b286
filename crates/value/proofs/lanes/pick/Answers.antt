use Rattle.value.proofs.LaneLaws.{pick_lane}
use Rattle.value.proofs.lanes.pick.Goals as goal

pub returns : goal.returns
returns c j = pick_lane j c.args.x c.args.lo c.args.hi
