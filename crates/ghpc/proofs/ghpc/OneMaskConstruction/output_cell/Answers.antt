use Rattle.std.proofs.Common.{◌≡◌, ◌+◌, ◌-◌, ◌*◌, ◌/◌, ◌%◌, [], ◌∷◌, Some, ap, ◌∙◌, arith}
use Rattle.netlist.specs.declared.cell.Kind.TheVariants.{Reg}
use Rattle.block.specs.Tables.{tabled}
use Rattle.constructions.specs.Gates.{cell_of}
use Rattle.constructions.specs.Ghpc.{breadth, start, entry, mask, decoded, product}
use Rattle.constructions.proofs.Numbers.{some_arguments}
use Rattle.ghpc.proofs.Layers.{selected_same}
use Rattle.ghpc.proofs.GhpcAnswers.{product_there, join_there, delay_there, output_0_there}
use Rattle.ghpc.proofs.ghpc.OneMaskConstruction.output_cell.Goals as goal
use Rattle.ghpc.proofs.ghpc.OneMaskConstruction.output_cell.Goals.{After-breadth}

begins : (c : After-breadth) → c.of-at.result.outputs + c.args.c * c.breadth.result ≡ start (tabled c.args.table.now) c.args.c
begins c = let e : c.args.c * c.breadth.result ≡ c.args.c * breadth (tabled c.args.table.now) = ap (λ w. c.args.c * w) c.breadth.ensures in omega arith

pub returns-then-place-all : goal.returns-then-place-all
returns-then-place-all c =
    let t = tabled c.args.table.now in
    let i = c.args.place / 5 in
    let s = begins (goal.at.returns-then-place-all c).After-breadth in
    let last : c.gate.result ≡ cell_of Reg 0 (product t c.args.c i ∷ []) = c.gate.ensures ∙ ap (λ v. cell_of Reg 0 (v ∷ [])) (omega arith) in
    c.cell.ensures
    ∙ selected_same t c.args.c i (c.args.place % 5) _ (entry t c.args.c i) _ (mask t c.args.c) _ (decoded t i) _ (cell_of Reg 0 (product t c.args.c i ∷ [])) (omega arith) (omega arith) (omega arith) last
    ∙ product_there t c.args.c c.args.place (omega (arith, c.if-place-all.true))

pub returns-then-place-all-2 : goal.returns-then-place-all-2
returns-then-place-all-2 c =
    let s = begins (goal.at.returns-then-place-all-2 c).After-breadth in
    ap Some c.join_cell.ensures
    ∙ join_there (tabled c.args.table.now) c.args.c c.args.place _ _ (c.args.place - 5 * c.of-at.result.arguments) (omega arith) (omega arith) (omega (arith, c.if-place-all.false))
    (omega (arith, c.if-place-all.false, c.if-place-all-2.true))

pub returns-then-place-all-3 : goal.returns-then-place-all-3
returns-then-place-all-3 c =
    let some = some_arguments (tabled c.args.table.now) in
    ap Some c.gate-then-place-all-3.ensures
    ∙ delay_there (tabled c.args.table.now) c.args.c c.args.place _ some (omega (arith, c.if-place-all-3.true)) (omega arith)

pub returns-else-place-all-3 : goal.returns-else-place-all-3
returns-else-place-all-3 c =
    let some = some_arguments (tabled c.args.table.now) in
    let s = begins (goal.at.returns-else-place-all-3 c).After-breadth in
    ap Some c.gate-else-place-all-3.ensures
    ∙ output_0_there (tabled c.args.table.now) c.args.c c.args.place _ some (omega (arith, c.if-place-all-2.false, c.if-place-all-3.false, c.requires.1)) (omega arith)
