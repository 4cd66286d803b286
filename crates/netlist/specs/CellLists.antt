-- What a list of cells in lent memory means.
use Rattle.std.specs.Prelude.{◌≡◌, Some, None, Option}
use Rattle.netlist.specs.declared.cell_list.CellList.{CellList}
use Rattle.netlist.specs.Nets.{Net, Lawful, net_of}

abbrev pub listed : CellList → Net
listed l = net_of l.inputs l.cells.now

pub listed_lawful : (l : CellList) → Lawful (listed l)
listed_lawful l = l.lawful

-- the list where the netlist is lawful, and none where it is not
abbrev pub Listing : Net → Option CellList → Type 0
Listing net (Some l) = Lawful net × (listed l ≡ net)
Listing net None = ¬ (Lawful net)
