use Rattle.isolation.proofs.Blind.{clean_worked_out}
use Rattle.isolation.proofs.worked_out_is_clean.Goals as goal

pub returns : goal.returns
returns c = clean_worked_out
