use Rattle.std.proofs.Common.{sym, ap, arith}
use Rattle.netlist.proofs.Places.{nth_past}
use Rattle.block.specs.Blocks.{Table}
use Rattle.block.specs.Tables.{tabled, tabled_lawful}
use Rattle.ghpc.proofs.generated.GeneratedBlock.output.Goals as goal

pub returns-else-c-outputs : goal.returns-else-c-outputs
returns-else-c-outputs g c =
    let x = c.args.self.now.table in
    let l = g.met.C.Construction.lawful (tabled x) (tabled_lawful x) in
    let e = ap (λ (t : Table). t.m) (g.met.C.Construction.layered (tabled x) (tabled_lawful x)).table in
    sym (nth_past _ c.args.c (omega (arith, l.complete)))
