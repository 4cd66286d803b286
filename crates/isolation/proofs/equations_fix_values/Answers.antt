use Rattle.isolation.proofs.Equations.{meets_carry}
use Rattle.isolation.proofs.equations_fix_values.Goals as goal

pub returns : goal.returns
returns g c = meets_carry
