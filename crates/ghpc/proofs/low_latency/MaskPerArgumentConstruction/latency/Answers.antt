use Rattle.std.proofs.Common.{sym}
use Rattle.block.specs.Tables.{tabled, tabled_lawful}
use Rattle.constructions.proofs.LowCounts.{counts_low_latency}
use Rattle.ghpc.proofs.low_latency.MaskPerArgumentConstruction.latency.Goals as goal

pub returns : goal.returns
returns c = let x = c.args._table.now in sym (counts_low_latency (tabled x) (tabled_lawful x)).2
