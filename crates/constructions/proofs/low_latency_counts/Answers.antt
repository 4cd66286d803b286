use Rattle.constructions.proofs.LowCounts.{counts_low_latency}
use Rattle.constructions.proofs.low_latency_counts.Goals as goal

pub returns : goal.returns
returns c = counts_low_latency
