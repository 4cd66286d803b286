use Rattle.std.proofs.Common.{rules, ◌≡◌, get_or, arith}
use Rattle.traverse.proofs.Walks.{shares_again}
use Rattle.traverse.proofs.walk.carry_shares.Goals as goal

pub loop-i-preserved : goal.loop-i-preserved
loop-i-preserved g c =
    let value : c.unwrap_or.result ≡ get_or c.args.given.now c.loop-i.i g.V.WireValue.ops.none = search rules in
    shares_again c.loop-i.i g.V.WireValue.ops.none _ c.args.given.now _ c.loop-i.v-items (omega arith) value c.loop-i.invariant
