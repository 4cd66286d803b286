use Rattle.std.proofs.Common.{◌≡◌, ℕ, drop}
use Rattle.traverse.proofs.Walks.{Kept}
use Rattle.traverse.proofs.walk.carry_cells.Given as goal

abbrev pub invariant-loop-wire : goal.invariant-loop-wire
invariant-loop-wire g l = (k : ℕ) × (l.fresh ≡ drop k l.given) × Kept g.V.WireValue.ops (g.N.Netlist.net l.netlist) l.given l.initial.out l.wire k l.out
