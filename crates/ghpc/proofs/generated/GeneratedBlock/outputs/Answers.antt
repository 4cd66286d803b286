use Rattle.std.proofs.Common.{ap, arith}
use Rattle.block.specs.Blocks.{Table}
use Rattle.block.specs.Tables.{tabled, tabled_lawful}
use Rattle.ghpc.proofs.generated.GeneratedBlock.outputs.Goals as goal

pub returns : goal.returns
returns g c =
    let x = c.args.self.now.table in
    let e = ap (λ (t : Table). t.m) (g.met.C.Construction.layered (tabled x) (tabled_lawful x)).table in
    omega arith
