use Rattle.std.proofs.Common.{◌∙◌}
use Rattle.netlist.proofs.Places.{wires_circuit}
use Rattle.block.specs.Blocks.{net_part}
use Rattle.block.specs.Tables.{tabled, tabled_lawful}
use Rattle.verdict.proofs.Accepting.{accepted_numbers}
use Rattle.ghpc.proofs.generated.Generated.report.Goals as goal

pub returns : goal.returns
returns g c =
    let x = c.args.self.now.table in
    let b = g.C.Construction.block_of (tabled x) in
    let h = g.met.C.Construction.accepted (tabled x) (tabled_lawful x) c.args.self.now.served in
    let wires = c.wires.ensures ∙ wires_circuit (net_part b) in
    record {
      verdict = accepted_numbers b h c.wires.result c.masks.result c.latency.result wires c.masks.ensures c.latency.ensures;
      wires = wires;
      masks = c.masks.ensures;
      latency = c.latency.ensures;
      accepted = h;
    }
