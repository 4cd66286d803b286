use Rattle.std.proofs.Common.{◌≡◌, ◌+◌, ◌*◌, ◌∷◌, ◌++◌, length, get_or, sym, refl, ap, ◌∙◌, arith}
use Rattle.netlist.proofs.Places.{nth_get_or}
use Rattle.blockfile.specs.Format.{two, field, pair_bytes}
use Rattle.blockfile.specs.Writing.{put_at}
use Rattle.blockfile.proofs.Pairs.{length_pairs}
use Rattle.blockfile.proofs.Placing.{put_more, put_whole}
use Rattle.blockfile.proofs.Items.{pair_item, pairs_joined, put_item, put_all}
use Rattle.blockfile.proofs.writing.put_outputs.Goals as goal

pub loop-c-preserved : goal.loop-c-preserved
loop-c-preserved g c =
    let k = c.loop-c.c in
    let ps = (g.B.Block.block c.args.source.now).outputs in
    let complete = (g.met.B.Block.whole c.args.source.now).complete in
    let there = nth_get_or ps k (0, 0) (omega arith) in
    let read : c.unwrap-zeroth.result ≡ get_or ps k (0, 0) = cc in
    put_item pair_item 4 (λ _. refl {a = 4}) 3 k ps (0, 0) c.wires.result c.put.new.out c.loop-c.out _ (omega arith) (omega arith) c.loop-c.invariant (c.wires.ensures ∙ ap pair_item read) c.put-in-loop-c.ensures

pub returns : goal.returns
returns g c =
    let ps = (g.B.Block.block c.args.source.now).outputs in
    let complete = (g.met.B.Block.whole c.args.source.now).complete in
    let long = length_pairs ps in
    let size : 4 * c.outputs-m.result ≡ length (pair_bytes ps) = omega arith in
    let pairs = put_all pair_item 3 c.loop-c.c ps c.put.new.out c.loop-c.out (omega arith) c.loop-c.invariant ∙ ap (λ ys. put_at 3 ys c.put.new.out) (pairs_joined ps) in
    put_more 0 3 c.header.result (pair_bytes ps) c.args.out.now c.put.new.out _ (omega arith) (ap (λ h. 0 + length h) (sym c.header.ensures)) c.put.ensures pairs
    ∙ ap (λ h. put_at 0 (h ++ pair_bytes ps) c.args.out.now) (c.header.ensures ∙ ap (λ n. 4 ∷ two n) size)
    ∙ put_whole (field 4 (pair_bytes ps)) c.args.out.now (omega arith)
