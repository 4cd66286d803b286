use Rattle.isolation.proofs.Shifts.{clean_by_shift}
use Rattle.isolation.proofs.restored_is_clean.Goals as goal

pub returns : goal.returns
returns c = clean_by_shift
