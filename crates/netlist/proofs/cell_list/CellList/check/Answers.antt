use Rattle.std.proofs.Common.{rules, below_more}
use Rattle.netlist.proofs.cell_list.CellList.check.Goals as goal

pub loop-k-preserved : goal.loop-k-preserved
loop-k-preserved c = below_more _ _ c.loop-k.invariant (search rules)
