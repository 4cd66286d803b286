use Rattle.constructions.proofs.LowByNumber.{low_latency_by_wire}
use Rattle.constructions.proofs.low_latency_by_wire.Goals as goal

pub returns : goal.returns
returns c = low_latency_by_wire
