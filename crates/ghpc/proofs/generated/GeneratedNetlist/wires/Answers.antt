use Rattle.std.proofs.Common.{◌≡◌, ◌+◌, ◌*◌, ◌≤◌, ap₂, arith}
use Rattle.netlist.specs.Nets.{net_wires}
use Rattle.block.specs.Blocks.{net_part}
use Rattle.block.specs.Tables.{tabled, tabled_lawful}
use Rattle.ghpc.proofs.generated.GeneratedNetlist.wires.Goals as goal
use Rattle.ghpc.proofs.generated.GeneratedNetlist.wires.Goals.{After-breadth}

told : (g : _) (c : After-breadth g) → (c.layout.result.outputs + c.outputs.result * c.breadth.result ≡ net_wires (net_part (g.C.Construction.block_of (tabled c.args.self.now.table))))
    × (c.layout.result.outputs + c.outputs.result * c.breadth.result ≤ 4096)
told g c =
    let x = c.args.self.now.table in
    let l = g.met.C.Construction.lawful (tabled x) (tabled_lawful x) in
    let y = g.met.C.Construction.layered (tabled x) (tabled_lawful x) in
    let e : c.outputs.result * c.breadth.result ≡ (tabled x).m * g.C.Construction.breadth_of (tabled x) = ap₂ (λ m w. m * w) c.outputs.ensures c.breadth.ensures in
    (omega (arith, y.wires), omega (arith, y.wires, l.net.size))

pub overflow_mul-result : goal.overflow_mul-result
overflow_mul-result g c = let h = told g (goal.at.overflow_mul-result g c).After-breadth in omega arith

pub overflow_add-result : goal.overflow_add-result
overflow_add-result g c = let h = told g (goal.at.overflow_add-result g c).After-breadth in omega arith

pub returns : goal.returns
returns g c = (told g (goal.at.returns g c).After-breadth).0
