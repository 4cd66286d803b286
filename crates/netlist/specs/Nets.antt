-- What a netlist is: its inputs and its list of cells, which every answer comes from.
use Rattle.std.specs.Prelude.{ℕ, zero, suc, ◌+◌, ◌-◌, ◌*◌, ◌<◌, ◌≤◌, cond, List, [], ◌∷◌, map, length, Some, None, Option, nat_lt, slice_index_or}
use Rattle.netlist.specs.declared.cell.Cell.{Cell}
use Rattle.netlist.specs.Circuit.{Circuit}
use Rattle.netlist.specs.Cells.{driver, Fits, no_cell}

pub record Net : Type 0 where
  pub inputs : ℕ
  pub cells : List Cell

abbrev pub net_wires : Net → ℕ
net_wires net = 2 * net.inputs + length net.cells

-- the same cells by what drives each wire
abbrev pub circuit : Net → Circuit
circuit net = record { inputs = net.inputs; drivers = map driver net.cells }

-- the netlist of some inputs and cells
abbrev pub net_of : ℕ → List Cell → Net
net_of p cells = record { inputs = p; cells = cells }

-- one input and no cell
abbrev pub identity_net : Net
identity_net = net_of 1 []

-- each cell may drive its wire, the first one the wire after the shares
abbrev pub CellsFit : ℕ → List Cell → Type 0
CellsFit p cells = (k : ℕ) → k < length cells → Fits (2 * p + k) (slice_index_or cells k no_cell)

-- the bounds that hold of every netlist
pub record Lawful (net : Net) : Type 0 where
  pub some : 1 ≤ net.inputs
  pub few : net.inputs ≤ 8
  pub size : net_wires net ≤ 4096
  pub fit : CellsFit net.inputs net.cells

module _ {A : Type 0} where
  -- what stands at a place of a list, and nothing past its end
  abbrev pub nth : List A → ℕ → Option A
  nth [] k = None
  nth (x ∷ xs) zero = Some x
  nth (x ∷ xs) (suc k) = nth xs k

-- the cell that drives a wire: none for an input share, and none past the last wire
abbrev pub cell_at : Net → ℕ → Option Cell
cell_at net w = cond (nat_lt w (2 * net.inputs)) None (nth net.cells (w - 2 * net.inputs))
