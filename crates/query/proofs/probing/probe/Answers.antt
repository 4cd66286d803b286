use Rattle.std.proofs.Common.{◌≡◌, ◌-◌, ◌≤◌, ◌++◌, length, drop, sym, ap, ◌∙◌, arith, rules}
use native.Mathlib.Nat.{sub-zero}
use Rattle.std.proofs.lemmas.List.{length-take-le}
use Rattle.netlist.specs.Circuit.{wire_count}
use Rattle.netlist.specs.Nets.{circuit}
use Rattle.netlist.proofs.Places.{wires_circuit}
use Rattle.isolation.proofs.Determined.{determines}
use Rattle.query.specs.Answers.{probe_bytes}
use Rattle.query.proofs.Tests.{room_known, wire_known, passed, rewritten_by}
use Rattle.query.proofs.Following.{length_probe_bytes}
use Rattle.query.proofs.probing.probe.Goals as goal

pub returns-in_err-check_room : goal.returns-in_err-check_room
returns-in_err-check_room g c = let d = determines (circuit (g.N.Netlist.net c.args.netlist.now)) c.args.wire in search rules

pub returns-in_err-check_wire : goal.returns-in_err-check_wire
returns-in_err-check_wire g c = let d = determines (circuit (g.N.Netlist.net c.args.netlist.now)) c.args.wire in search rules

pub slice_bounds-mark_seen-end : goal.slice_bounds-mark_seen-end
slice_bounds-mark_seen-end g c =
    let n = g.N.Netlist.net c.args.netlist.now in
    let h : c.wires.result ≤ length c.args.out.now = omega (arith, wires_circuit n, room_known (wire_count (circuit n)) (length c.args.out.now) c.in_ok-check_room.ensures) in
    h

pub mark_seen-requires : goal.mark_seen-requires
mark_seen-requires g c =
    let n = g.N.Netlist.net c.args.netlist.now in
    let room = room_known (wire_count (circuit n)) (length c.args.out.now) c.in_ok-check_room.ensures in
    record {
      within = omega (arith, wires_circuit n, wire_known (circuit n) c.args.wire c.in_ok-check_wire.ensures);
      long = length-take-le (c.wires.result - 0) c.args.out.now (omega (arith, wires_circuit n, room)) ∙ sub-zero c.wires.result ∙ c.wires.ensures;
    }

pub returns : goal.returns
returns g c =
    let n = g.N.Netlist.net c.args.netlist.now in
    let w : c.wires.result - 0 ≡ wire_count (circuit n) = sub-zero c.wires.result ∙ c.wires.ensures ∙ wires_circuit n in
    record {
      answer = passed _ _ _ c.in_ok-check_room.ensures c.in_ok-check_wire.ensures;
      after =
          rewritten_by (wire_count (circuit n)) c.mark_seen.new.marks (probe_bytes (circuit n) c.args.wire) c.args.out.now _ (ap (λ k. c.mark_seen.new.marks ++ drop k c.args.out.now) w)
          c.mark_seen.ensures (sym (length_probe_bytes (circuit n) c.args.wire));
      determines = determines (circuit n) c.args.wire;
    }
