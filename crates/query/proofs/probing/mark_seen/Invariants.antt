use Rattle.std.proofs.Common.{◌*◌, ◌≤◌}
use Rattle.query.proofs.Following.{Followed}
use Rattle.query.proofs.probing.mark_seen.Given as goal

abbrev pub invariant-loop-w : goal.invariant-loop-w
invariant-loop-w g l = let n = g.N.Netlist.net l.netlist in Followed n l.w l.initial.marks l.marks × (2 * n.inputs ≤ l.w)
