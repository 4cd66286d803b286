use Rattle.isolation.proofs.Blind.{clean_within}
use Rattle.isolation.proofs.subset_is_clean.Goals as goal

pub returns : goal.returns
returns c = clean_within
