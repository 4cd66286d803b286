use Rattle.std.proofs.Common.{◌≤◌, length, sym, ◌∙◌, arith}
use Rattle.netlist.specs.Circuit.{share_count, wire_count}
use Rattle.netlist.specs.Nets.{circuit, net_wires}
use Rattle.netlist.proofs.Places.{wires_circuit}
use Rattle.value.specs.Values.{lane_ops}
use Rattle.traverse.specs.Carrying.{carried_from}
use Rattle.query.specs.Answers.{settled_bytes}
use Rattle.query.proofs.Tests.{room_known, given_known, bits_below, passed, rewritten_by}
use Rattle.query.proofs.Settles.{settled_from, length_settled_bytes}
use Rattle.query.proofs.settling.settle.Goals as goal

pub carry-requires : goal.carry-requires
carry-requires g c =
    let n = g.N.Netlist.net c.args.netlist.now in
    omega (arith, wires_circuit n, room_known (wire_count (circuit n)) (length c.args.out.now) c.in_ok-check_room.ensures)

pub returns : goal.returns
returns g c =
    let n = g.N.Netlist.net c.args.netlist.now in
    let given = c.args.given.now in
    let long : share_count (circuit n) ≤ length given = omega (arith, given_known (circuit n) (length given) c.in_ok-check_given.ensures) in
    record {
      answer = passed _ _ _ c.in_ok-check_room.ensures (passed _ _ _ c.in_ok-check_given.ensures c.in_ok-check_bits.ensures);
      after =
          rewritten_by (net_wires n) (carried_from (lane_ops 1) (circuit n) given) (settled_bytes (circuit n) given) c.args.out.now _ c.carry.ensures
          (settled_from (circuit n) given (bits_below given 0 (sym c.in_ok-check_bits.ensures)) long) (wires_circuit n ∙ sym (length_settled_bytes (circuit n) given long));
    }
