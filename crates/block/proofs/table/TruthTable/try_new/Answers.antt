use Rattle.std.proofs.Common.{◌≡◌, ℕ, ◌-◌, ◌^◌, ◌<◌, ◌≤◌, true, ◌&&◌, Some, cond, ◌++◌, length, get_or, take, replicate, Err, sym, ap, ◌∙◌, arith, take_at}
use Rattle.std.specs.Ordering.{nat_cmp, is_le, is_some_and}
use Rattle.std.proofs.lemmas.Bool.{and_parts}
use Rattle.std.proofs.lemmas.List.{get_or_append_left}
use Rattle.std.proofs.lemmas.Bool.Decides.{nat_tests}
use Rattle.fault.specs.declared.NetlistFault.TheVariants.{TableSize}
use Rattle.block.specs.Tables.{table_of, entries_answer}
use Rattle.block.proofs.Entries.{entries_below, padded_rest, pad_length, sizes_known}
use Rattle.block.proofs.table.TruthTable.try_new.Goals as goal

within_four : (n : ℕ) → is_some_and is_le (Some (nat_cmp 1 n)) && is_some_and is_le (Some (nat_cmp n 4)) ≡ true → (1 ≤ n) × (n ≤ 4)
within_four n e =
    let p = and_parts (is_some_and is_le (Some (nat_cmp 1 n))) (is_some_and is_le (Some (nat_cmp n 4))) e in
    let a = p.0 in
    let b = p.1 in
    (grind (arith, nat_tests), grind (arith, nat_tests))

pub invariant_of-result : goal.invariant_of-result
invariant_of-result c =
    let inputs = within_four c.args.n (sym (rw (c.new.ensures.start, c.new.ensures.end, c.new.ensures.exhausted) at c.contains.ensures.value) ∙ c.if-not-contains.false) in
    let outputs = within_four c.args.m (sym (rw (c.new-else-not-contains.ensures.start, c.new-else-not-contains.ensures.end, c.new-else-not-contains.ensures.exhausted) at c.contains-else-not-contains.ensures.value) ∙ c.if-not-contains-2.false) in
    let es = c.args.entries.now in
    let limit : c.power-2.result ≡ 2 ^ c.args.m = c.power-2.ensures.0 in
    let fine = sym c.in_ok-check_entries.ensures in
    let most : length es ≤ 16 = omega (arith, c.if-entries-power.false, c.power.ensures) in
    let read : (a : ℕ) → get_or c.padded.result a 0 ≡ get_or (es ++ replicate (16 - length es) 0) a 0 = λ a. ap (λ l. get_or l a 0) c.padded.ensures in
    record {
      size = (omega arith, omega arith, omega arith, omega arith);
      small = λ a h. let within : a < length es = omega (arith, c.if-entries-power.false, c.power.ensures) in omega (arith, limit, read a, get_or_append_left es (replicate (16 - length es) 0) 0 a within, entries_below c.power-2.result 0 es fine a within);
      rest = λ a h. read a ∙ padded_rest es (16 - length es) a (omega (arith, c.if-entries-power.false, c.power.ensures));
      long = ap length c.padded.ensures ∙ pad_length es most;
    }

pub returns : goal.returns
returns c =
    let es = c.args.entries.now in
    let size : length es ≡ 2 ^ c.args.n = omega (arith, c.if-entries-power.false, c.power.ensures) in
    let limit : c.power-2.result ≡ 2 ^ c.args.m = c.power-2.ensures.0 in (
      sym (c.in_ok-check_entries.ensures ∙ ap (λ l. entries_answer l 0 es) limit
          ∙ sym (ap (λ b. cond b (entries_answer (2 ^ c.args.m) 0 es) (Err TableSize)) (sizes_known c.args.n c.args.m (length es) (omega arith) (omega arith) (omega arith) (omega arith) size))),
      ap (table_of c.args.n c.args.m) (ap (λ l. take (2 ^ c.args.n) l) c.padded.ensures ∙ take_at es (replicate (16 - length es) 0) (2 ^ c.args.n) size),
    )
