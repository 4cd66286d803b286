use Rattle.std.proofs.Common.{ap, ◌∙◌}
use Rattle.constructions.specs.LowLatency.{low_latency_of}
use Rattle.ghpc.proofs.low_latency.GhpcLl.identity.Goals as goal

pub returns : goal.returns
returns c = ap low_latency_of (c.of_served.ensures ∙ c.identity.ensures)
