use Rattle.std.proofs.Common.{◌≡◌, ◌+◌, ◌*◌, ◌%◌, ◌≤◌, [], ◌∷◌, arith, take_all}
use Rattle.value.proofs.LaneLaws.{lowest, lowest_look}
use Rattle.value.proofs.bits.U8WireValue.look.Goals as goal

pub returns-in-0 : goal.returns-in-0
returns-in-0 c = let w : c.args.width ≡ 0 = omega arith in rw w (lowest_look c.args.table (0) _ ([]) c.table_bit.ensures (omega arith))

pub returns-in-1 : goal.returns-in-1
returns-in-1 c = let w : c.args.width ≡ 1 = omega arith in rw w (lowest_look c.args.table (c.args.a % 2) _ (c.args.a ∷ []) c.table_bit-in-1.ensures (omega (arith, lowest c.args.a)))

pub returns-in-2 : goal.returns-in-2
returns-in-2 c = let w : c.args.width ≡ 2 = omega arith in rw w (lowest_look c.args.table _ _ (c.args.a ∷ c.args.b ∷ []) c.table_bit-in-2.ensures (omega (arith, lowest c.args.a, lowest c.args.b)))

pub returns-in-3 : goal.returns-in-3
returns-in-3 c = let w : c.args.width ≡ 3 = omega arith in rw w (lowest_look c.args.table (c.args.a % 2 + 2 * (c.args.b % 2) + 4 * (c.args.c % 2)) _ (c.args.a ∷ c.args.b ∷ c.args.c ∷ []) c.table_bit-in-3.ensures (omega (arith, lowest c.args.a, lowest c.args.b, lowest c.args.c)))

pub returns-in_default : goal.returns-in_default
returns-in_default c =
    let w : 4 ≤ c.args.width = omega arith in
    rw (take_all c.args.width (c.args.a ∷ c.args.b ∷ c.args.c ∷ c.args.d ∷ []) w) (lowest_look c.args.table (c.args.a % 2 + 2 * (c.args.b % 2) + 4 * (c.args.c % 2) + 8 * (c.args.d % 2)) _ (c.args.a ∷ c.args.b ∷ c.args.c ∷ c.args.d ∷ []) c.table_bit-in_default.ensures (omega (arith, lowest c.args.a, lowest c.args.b, lowest c.args.c, lowest c.args.d)))
