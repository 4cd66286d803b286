use Rattle.constructions.proofs.GhpcCounts.{counts_ghpc}
use Rattle.constructions.proofs.ghpc_counts.Goals as goal

pub returns : goal.returns
returns c = counts_ghpc
