use Rattle.traverse.proofs.Walks.{Counted}
use Rattle.traverse.proofs.walk.masks.Given as goal

abbrev pub invariant-loop-wire : goal.invariant-loop-wire
invariant-loop-wire g l = Counted (g.N.Netlist.net l.netlist) l.wire l.count
