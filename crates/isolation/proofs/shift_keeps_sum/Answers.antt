use Rattle.isolation.proofs.Shifts.{sum_shift}
use Rattle.isolation.proofs.shift_keeps_sum.Goals as goal

pub returns : goal.returns
returns c = sum_shift
