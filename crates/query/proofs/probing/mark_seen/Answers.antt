use Rattle.std.proofs.Common.{length, set, ap, arith}
use Rattle.query.proofs.Following.{back_end}
use Rattle.query.proofs.probing.mark_seen.Goals as goal

pub returns : goal.returns
returns g c =
    let fit = (g.met.N.Netlist.lawful c.args.netlist.now).fit in
    back_end (g.N.Netlist.net c.args.netlist.now) c.loop-w.w c.args.wire (length c.args.marks.now) _ c.loop-w.marks fit c.requires.within (omega (arith, c.loop-w.invariant.1)) c.requires.long
    (ap (λ ms. set ms c.args.wire 1) (c.fill.ensures.after (λ y e. e))) c.loop-w.invariant.0
