use Rattle.isolation.proofs.Blind.{clean_weighs}
use Rattle.isolation.proofs.clean_weighs_equally.Goals as goal

pub returns : goal.returns
returns c = clean_weighs
