use Rattle.std.proofs.Common.{ℕ, Bool, rules, tests, ap, ◌∙◌, arith}
use lib.Bits.{bit_xor}
use Rattle.std.proofs.lemmas.Iterator.{YieldsList-from_range, YieldsList-from_map}
use Rattle.std.proofs.lemmas.Iterator.Consumers.{sum_from_yields_List, fits_from_yields_list}
use Rattle.netlist.specs.Circuit.{number}
use Rattle.block.specs.Blocks.{output_at}
use Rattle.block.specs.Tables.{tabled}
use Rattle.constructions.specs.Gates.{each}
use Rattle.ghpc.proofs.Looks.{weight, sum_bits, sum_small}
use Rattle.ghpc.proofs.gates.shifted.Goals as goal

pub sum-requires-clause-fits : goal.sum-requires-clause-fits
sum-requires-clause-fits c =
    let f : ℕ → Bool = λ a. output_at (tabled c.args.table.now) c.args.c (bit_xor a c.args.i) in
    fits_from_yields_list c.map.result _
    (YieldsList-from_map _ (weight f) (YieldsList-from_range 0 c.arguments.result c.arguments.result c.map.ensures.source (omega arith)) c.map.ensures.closure (λ x r q k. search (rules, tests)))
    (sum_small f c.arguments.result (omega arith))

pub returns : goal.returns
returns c =
    let f : ℕ → Bool = λ a. output_at (tabled c.args.table.now) c.args.c (bit_xor a c.args.i) in
    sum_from_yields_List c.map.result c.sum.result c.sum.ensures.ran
    (YieldsList-from_map _ (weight f) (YieldsList-from_range 0 c.arguments.result c.arguments.result c.map.ensures.source (omega arith)) c.map.ensures.closure (λ x r q k. search (rules, tests)))
    ∙ sum_bits f c.arguments.result (omega arith) ∙ ap (λ k. number (each k f)) c.arguments.ensures.count
