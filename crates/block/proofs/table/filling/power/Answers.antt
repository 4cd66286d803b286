use Rattle.std.proofs.Common.{◌^◌, ◌≤◌, arith, pow_mono}
use Rattle.std.proofs.lemmas.Nat.{shl_whole}
use Rattle.block.proofs.table.filling.power.Goals as goal

pub returns : goal.returns
returns c =
    let most : 2 ^ c.args.n ≤ 2 ^ 4 = pow_mono c.requires in
    let whole = shl_whole 1 1 c.args.n 64 (omega arith) (omega (arith, c.requires)) in
    (omega arith, omega arith)
