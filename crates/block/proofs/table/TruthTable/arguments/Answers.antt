use Rattle.std.proofs.Common.{◌^◌, ◌≤◌, arith, pow_mono}
use Rattle.block.proofs.table.TruthTable.arguments.Goals as goal

pub returns-clause-some : goal.returns-clause-some
returns-clause-some c =
    let least : 2 ^ 1 ≤ 2 ^ c.args.self.now.n = pow_mono c.args.self.now.size.0 in
    omega (arith, c.power.ensures)
