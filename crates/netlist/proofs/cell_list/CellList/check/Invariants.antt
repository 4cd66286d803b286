use Rattle.std.proofs.Common.{ℕ, ◌+◌, ◌*◌, ◌<◌, slice_index_or}
use Rattle.netlist.specs.Cells.{Fits, no_cell}
use Rattle.netlist.proofs.cell_list.CellList.check.Given as goal

abbrev pub invariant-loop-k : goal.invariant-loop-k
invariant-loop-k l = (j : ℕ) → j < l.k → Fits (2 * l.inputs + j) (slice_index_or l.cells j no_cell)
