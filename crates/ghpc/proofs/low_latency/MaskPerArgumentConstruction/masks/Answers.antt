use Rattle.std.proofs.Common.{sym, ◌∙◌}
use Rattle.block.specs.Tables.{tabled, tabled_lawful}
use Rattle.constructions.proofs.LowCounts.{masks_low_latency}
use Rattle.ghpc.proofs.low_latency.MaskPerArgumentConstruction.masks.Goals as goal

pub returns : goal.returns
returns c = let x = c.args.table.now in c.mask_total.ensures.0 ∙ sym (masks_low_latency (tabled x) (tabled_lawful x))
