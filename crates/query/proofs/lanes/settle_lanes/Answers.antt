use Rattle.std.proofs.Common.{◌≤◌, length, arith}
use Rattle.netlist.specs.Circuit.{share_count, wire_count}
use Rattle.netlist.specs.Nets.{circuit, net_wires}
use Rattle.netlist.proofs.Places.{wires_circuit}
use Rattle.query.proofs.Tests.{room_known, given_known, passed}
use Rattle.query.proofs.Settles.{lanes_after}
use Rattle.query.proofs.lanes.settle_lanes.Goals as goal

pub carry-requires : goal.carry-requires
carry-requires g c =
    let n = g.N.Netlist.net c.args.netlist.now in
    omega (arith, wires_circuit n, room_known (wire_count (circuit n)) (length c.args.out.now) c.in_ok-check_room.ensures)

pub returns : goal.returns
returns g c =
    let n = g.N.Netlist.net c.args.netlist.now in
    let given = c.args.given.now in
    let long : share_count (circuit n) ≤ length given = omega (arith, given_known (circuit n) (length given) c.in_ok-check_given.ensures) in
    record {
      answer = passed _ _ _ c.in_ok-check_room.ensures c.in_ok-check_given.ensures;
      after = lanes_after (circuit n) (net_wires n) given c.args.out.now _ (wires_circuit n) long c.carry.ensures;
    }
