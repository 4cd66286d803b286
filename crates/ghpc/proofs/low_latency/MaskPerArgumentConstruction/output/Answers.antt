use Rattle.std.proofs.Common.{◌≡◌, ◌+◌, ◌*◌, ap, ◌∙◌, add-mul, one-mul, arith}
use Rattle.block.specs.Tables.{tabled, tabled_lawful}
use Rattle.constructions.specs.LowLatency.{breadth}
use Rattle.ghpc.proofs.LowAnswers.{output_made}
use Rattle.ghpc.proofs.low_latency.MaskPerArgumentConstruction.output.Goals as goal

pub returns : goal.returns
returns c =
    let t = tabled c.args.table.now in
    let e : (c.args.c + 1) * c.breadth.result ≡ c.args.c * breadth t + breadth t =
    ap (λ w. (c.args.c + 1) * w) c.breadth.ensures ∙ add-mul c.args.c 1 (breadth t) ∙ ap (λ x. c.args.c * breadth t + x) (one-mul (breadth t))
    in
    output_made t (tabled_lawful c.args.table.now) c.args.c _ _ c.requires (omega (arith, e, c.of-at.ensures.outputs, c.mask_total.ensures.0)) c.of-at.ensures.arguments
