use Rattle.std.proofs.Common.{◌≡◌, ◌+◌, ◌-◌, ◌*◌, ◌/◌, ◌%◌, [], ◌∷◌, Some, ap, ◌∙◌, ap₂, arith}
use Rattle.netlist.specs.declared.cell.Kind.TheVariants.{And}
use Rattle.block.specs.Tables.{tabled, tabled_lawful}
use Rattle.constructions.specs.Gates.{argument_count, cell_of}
use Rattle.constructions.proofs.Numbers.{least_arguments}
use Rattle.constructions.specs.LowLatency.{breadth, start, entry, mask, decoded}
use Rattle.ghpc.proofs.Layers.{selected_same}
use Rattle.ghpc.proofs.LowAnswers.{product_there, join_1_there, join_0_there, last_there}
use Rattle.ghpc.proofs.low_latency.MaskPerArgumentConstruction.output_cell.Goals as goal
use Rattle.ghpc.proofs.low_latency.MaskPerArgumentConstruction.output_cell.Goals.{After-breadth}

begins : (c : After-breadth) → c.of-at.result.outputs + c.args.c * c.breadth.result ≡ start (tabled c.args.table.now) c.args.c
begins c = let e : c.args.c * c.breadth.result ≡ c.args.c * breadth (tabled c.args.table.now) = ap (λ w. c.args.c * w) c.breadth.ensures in omega arith

pub returns-then-place-all : goal.returns-then-place-all
returns-then-place-all c =
    let t = tabled c.args.table.now in
    let i = c.args.place / 5 in
    let s = begins (goal.at.returns-then-place-all c).After-breadth in
    let masks : c.args.c * c.of-at.result.arguments ≡ c.args.c * argument_count t = ap (λ a. c.args.c * a) c.of-at.ensures.arguments in
    let d : c.of-at.result.selectors + 2 * i ≡ decoded t i = omega arith in
    let m : c.of-at.result.masks + (c.args.c * c.of-at.result.arguments + i) ≡ mask t c.args.c i = omega arith in
    let last : c.gate.result ≡ cell_of And 0 (decoded t i ∷ mask t c.args.c i ∷ []) = c.gate.ensures ∙ ap₂ (λ v w. cell_of And 0 (v ∷ w ∷ [])) d m in
    c.cell.ensures
    ∙ selected_same t c.args.c i (c.args.place % 5) _ (entry t c.args.c i) _ (mask t c.args.c i) _ (decoded t i) _ (cell_of And 0 (decoded t i ∷ mask t c.args.c i ∷ [])) (omega arith) m d last
    ∙ product_there t c.args.c c.args.place (omega (arith, c.if-place-all.true))

pub returns-then-place-all-2 : goal.returns-then-place-all-2
returns-then-place-all-2 c =
    let s = begins (goal.at.returns-then-place-all-2 c).After-breadth in
    ap Some c.join_cell.ensures
    ∙ join_1_there (tabled c.args.table.now) c.args.c c.args.place _ _ (c.args.place - 5 * c.of-at.result.arguments) (omega arith) (omega arith) (omega (arith, c.if-place-all.false))
    (omega (arith, c.if-place-all.false, c.if-place-all-2.true))

pub returns-then-place-all-3 : goal.returns-then-place-all-3
returns-then-place-all-3 c =
    let two = least_arguments (tabled c.args.table.now) (tabled_lawful c.args.table.now) in
    let s = begins (goal.at.returns-then-place-all-3 c).After-breadth in
    ap Some c.join_cell-then-place-all-3.ensures
    ∙ join_0_there (tabled c.args.table.now) c.args.c c.args.place _ _ (c.args.place - (6 * c.of-at.result.arguments - 1)) (omega arith) (omega arith) (omega (arith, c.if-place-all-2.false))
    (omega (arith, c.if-place-all-2.false, c.if-place-all-3.true))

pub returns-else-place-all-3 : goal.returns-else-place-all-3
returns-else-place-all-3 c =
    let two = least_arguments (tabled c.args.table.now) (tabled_lawful c.args.table.now) in
    let s = begins (goal.at.returns-else-place-all-3 c).After-breadth in
    ap Some c.gate-else-place-all-3.ensures
    ∙ last_there (tabled c.args.table.now) c.args.c c.args.place _ two (omega (arith, c.if-place-all-3.false, c.requires.1)) (omega arith)
