use Rattle.std.proofs.Common.{arith}
use Rattle.block.specs.Tables.{tabled, tabled_lawful}
use Rattle.ghpc.proofs.generated.Generated.layout.Goals as goal

pub of-requires : goal.of-requires
of-requires g c =
    let t = tabled c.args.self.now.table in
    let l = g.met.C.Construction.lawful t (tabled_lawful c.args.self.now.table) in
    let y = g.met.C.Construction.layered t (tabled_lawful c.args.self.now.table) in
    omega (arith, l.net.size, y.wires, c.masks.ensures)
