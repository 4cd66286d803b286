use Rattle.std.proofs.Common.{sym, ◌∙◌}
use Rattle.block.specs.Tables.{tabled, tabled_lawful}
use Rattle.constructions.proofs.GhpcCounts.{masks_ghpc}
use Rattle.ghpc.proofs.ghpc.OneMaskConstruction.masks.Goals as goal

pub returns : goal.returns
returns c = let x = c.args.table.now in c.outputs.ensures ∙ sym (masks_ghpc (tabled x) (tabled_lawful x))
