use Rattle.std.proofs.Common.{sym, ap, ◌∙◌}
use Rattle.netlist.specs.Nets.{nth}
use Rattle.block.specs.Blocks.{Table}
use Rattle.block.specs.Tables.{tabled, tabled_lawful}
use Rattle.ghpc.proofs.generated.GeneratedBlock.entry.Goals as goal

pub returns : goal.returns
returns g c =
    let x = c.args.self.now.table in
    c.entry.ensures ∙ sym (ap (λ (t : Table). nth t.entries c.args.argument) (g.met.C.Construction.layered (tabled x) (tabled_lawful x)).table)
