use Rattle.std.proofs.Common.{sym}
use Rattle.block.specs.Tables.{tabled, tabled_lawful}
use Rattle.constructions.proofs.GhpcCounts.{latency_ghpc}
use Rattle.ghpc.proofs.ghpc.OneMaskConstruction.latency.Goals as goal

pub returns : goal.returns
returns c = let x = c.args._table.now in sym (latency_ghpc (tabled x) (tabled_lawful x))
