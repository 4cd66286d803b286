use Rattle.isolation.proofs.Maskings.{clean_masked}
use Rattle.isolation.proofs.clean_hides_plain_inputs.Goals as goal

pub returns : goal.returns
returns c = clean_masked
