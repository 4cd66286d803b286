use Rattle.isolation.proofs.Determined.{determines}
use Rattle.isolation.proofs.probe_determines_wire.Goals as goal

pub returns : goal.returns
returns c = determines
