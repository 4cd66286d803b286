use Rattle.isolation.proofs.OtherShares.{clean_no_other_share}
use Rattle.isolation.proofs.clean_holds_no_other_share.Goals as goal

pub returns : goal.returns
returns c = clean_no_other_share
