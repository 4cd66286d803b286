use Rattle.std.proofs.Common.{◌*◌, ◌++◌, ap, ◌∙◌, arith}
use Rattle.netlist.specs.Nets.{net_wires, circuit}
use Rattle.traverse.specs.Carrying.{carried_from}
use Rattle.traverse.proofs.Walks.{rest_kept}
use Rattle.traverse.proofs.walk.carry.Goals as goal

pub returns : goal.returns
returns g c =
    let n = g.N.Netlist.net c.args.netlist.now in
    c.carry_cells.ensures
    ∙ ap (λ ys. carried_from g.V.WireValue.ops (circuit n) c.args.given.now ++ ys)
    (rest_kept (2 * c.inputs.result) (2 * n.inputs) (net_wires n) g.V.WireValue.ops.none c.args.given.now c.args.out.now _ (omega arith) (omega arith) c.carry_shares.ensures)
