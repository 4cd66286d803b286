-- The cause, the layer and the place of each fault.
use Rattle.std.specs.Prelude.{ℕ, List, ◌++◌, codes, decimal}
use Rattle.fault.specs.declared.Report.{Report}
use Rattle.fault.specs.declared.FieldFault.{FieldFault}
use Rattle.fault.specs.declared.FieldFault.TheVariants.{Cut, Tag, Length, Value, Trailing}
use Rattle.fault.specs.declared.NetlistFault.{NetlistFault}
use Rattle.fault.specs.declared.NetlistFault.TheVariants.{Field, TableSize, TableEntry, MaskLimit, BlockWires, BlockMasks, Recombination, Breadth, Leak, Wire, Given, Bit, Memory}

abbrev pub report_of : ℕ → ℕ → ℕ → Report
report_of cause layer place = record { cause = cause; layer = layer; place = place }

-- the line that a person is shown: cause, layer and place in decimal
abbrev pub refusal_line : Report → List ℕ
refusal_line r = codes "refused " ++ (decimal r.cause ++ (codes " layer " ++ (decimal r.layer ++ (codes " place " ++ decimal r.place))))

abbrev pub field_report : FieldFault → Report
field_report (Cut place) = report_of 4 1 place
field_report (Tag place) = report_of 5 1 place
field_report (Length place) = report_of 6 1 place
field_report (Value place) = report_of 7 1 place
field_report (Trailing place) = report_of 8 1 place

abbrev pub netlist_report : NetlistFault → Report
netlist_report (Field f) = field_report f
netlist_report TableSize = report_of 1 2 0
netlist_report (TableEntry place) = report_of 2 2 place
netlist_report MaskLimit = report_of 3 2 0
netlist_report BlockWires = report_of 9 2 512
netlist_report (BlockMasks place) = report_of 9 2 place
netlist_report (Recombination place) = report_of 10 2 place
netlist_report (Breadth place) = report_of 11 2 place
netlist_report (Leak place) = report_of 12 2 place
netlist_report (Wire place) = report_of 17 2 place
netlist_report (Given place) = report_of 18 2 place
netlist_report (Bit place) = report_of 19 2 place
netlist_report (Memory place) = report_of 20 2 place
