use Rattle.std.proofs.Common.{[], length, sym, ◌∙◌, arith}
use Rattle.netlist.specs.Circuit.{wire_count, register_counts}
use Rattle.netlist.specs.Nets.{circuit, net_wires}
use Rattle.netlist.proofs.Places.{wires_circuit}
use Rattle.value.specs.Values.{count_ops}
use Rattle.traverse.specs.Carrying.{carried_from}
use Rattle.query.proofs.Tests.{room_known, rewritten_by}
use Rattle.query.proofs.Settles.{counts_from, length_register_counts}
use Rattle.query.proofs.counting.count.Goals as goal

pub carry-requires : goal.carry-requires
carry-requires g c =
    let n = g.N.Netlist.net c.args.netlist.now in
    omega (arith, wires_circuit n, room_known (wire_count (circuit n)) (length c.args.out.now) c.in_ok-check_room.ensures)

pub returns : goal.returns
returns g c =
    let n = g.N.Netlist.net c.args.netlist.now in
    let size = (g.met.N.Netlist.lawful c.args.netlist.now).size in
    record {
      answer = c.in_ok-check_room.ensures;
      after =
          rewritten_by (net_wires n) (carried_from count_ops (circuit n) []) (register_counts (circuit n)) c.args.out.now _ c.carry.ensures
          (counts_from (circuit n) (omega (arith, wires_circuit n))) (wires_circuit n ∙ sym (length_register_counts (circuit n)));
    }
