use Rattle.std.proofs.Common.{◌^◌, take, sym, ap, ◌∙◌, arith}
use Rattle.netlist.specs.Circuit.{bit}
use Rattle.netlist.proofs.Bits.{bit_zero, bit_past}
use Rattle.netlist.proofs.Places.{get_or_nth}
use Rattle.block.proofs.table.TruthTable.value.Goals as goal

pub returns-in_default : goal.returns-in_default
returns-in_default c =
    let t = c.args.self.now in
    sym (ap (λ x. bit x c.args.c) (get_or_nth (take (2 ^ t.n) t.entries) c.args.argument 0 _ c.in-Some.ensures) ∙ bit_past c.in-Some.entry c.args.c (omega arith) (omega arith))

pub returns-in_default-2 : goal.returns-in_default-2
returns-in_default-2 c =
    let t = c.args.self.now in
    sym (ap (λ x. bit x c.args.c) (get_or_nth (take (2 ^ t.n) t.entries) c.args.argument 0 _ c.in_default.ensures) ∙ bit_zero c.args.c)
