-- The fields that are put one after another are the file.
use Rattle.std.proofs.Common.{◌≡◌, ℕ, ◌+◌, ◌*◌, ◌<◌, ◌≤◌, true, false, ltb, List, [], ◌∷◌, ◌++◌, length, drop, Ok, Err, ap, ◌∙◌, subst, append_assoc, zero-add, arith, length-append, le-ltb, lt-ltb, take, ◌-◌, sym}
use borrow.Rule.Slice.PartMut.{put_mid}
use Rattle.std.proofs.lemmas.List.{drop-drop}
use Rattle.fault.specs.declared.NetlistFault.TheVariants.{Memory}
use Rattle.block.specs.Blocks.{Whole, LawfulBlock}
use Rattle.blockfile.specs.Format.{field, cell_fields, pair_bytes, file_of}
use Rattle.blockfile.specs.Writing.{write_answer, put_at}
use Rattle.blockfile.proofs.Pairs.{length_pairs}
use Rattle.blockfile.proofs.Blocks.{length_cells, file_length}
use Rattle.blockfile.proofs.Placing.{put_more}

-- the whole file
pub file_put : (b : Whole) (body outputs : ℕ) (old o1 o2 o3 : List ℕ) → body ≡ 8 + length b.table.entries → outputs ≡ body + 14 * length b.cells
    → o1 ≡ put_at 0 (field 1 (b.table.n ∷ b.table.m ∷ []) ++ field 2 b.table.entries) old → o2 ≡ put_at body (cell_fields b.cells) o1
    → o3 ≡ put_at outputs (field 4 (pair_bytes b.outputs)) o2 → o3 ≡ file_of b ++ drop (length (file_of b)) old
file_put b body outputs old o1 o2 o3 eb eo e1 e2 e3 =
    let table = field 1 (b.table.n ∷ b.table.m ∷ []) ++ field 2 b.table.entries in
    let cells = cell_fields b.cells in
    let outs = field 4 (pair_bytes b.outputs) in
    let l1 : body ≡ 0 + length table = omega arith in
    let l2 : outputs ≡ 0 + length (table ++ cells) = omega (arith, length-append table cells, length_cells b.cells) in
    let p2 = put_more 0 body table cells old o1 o2 (omega arith) l1 e1 e2 in
    let p3 = put_more 0 outputs (table ++ cells) outs old o2 o3 (omega arith) l2 p2 e3 in
    let same : (table ++ cells) ++ outs ≡ file_of b = append_assoc table cells outs ∙ append_assoc (field 1 (b.table.n ∷ b.table.m ∷ [])) (field 2 b.table.entries) (cells ++ outs) in
    p3 ∙ ap (λ f. f ++ drop (0 + length f) old) same ∙ ap (λ i. file_of b ++ drop i old) (zero-add (length (file_of b)))

mid_put : (a k : ℕ) (xs ys zs : List ℕ) → ys ≡ zs → length zs ≡ k → put_mid a k xs ys ≡ put_at a zs xs
mid_put a k xs ys zs e l = ap (λ us. put_mid a k xs us) e ∙ ap (λ us. take a xs ++ (zs ++ us)) (drop-drop k a xs ∙ ap (λ i. drop (a + i) xs) (sym l))

-- the same where each part is put into its own piece of the memory
pub pieces_put : (b : Whole) → LawfulBlock b → (body outputs needed : ℕ) (old table cells outs : List ℕ) → body ≡ 8 + length b.table.entries → outputs ≡ body + 14 * length b.cells
    → needed ≡ outputs + 3 + 4 * b.table.m → table ≡ field 1 (b.table.n ∷ b.table.m ∷ []) ++ field 2 b.table.entries → cells ≡ cell_fields b.cells → outs ≡ field 4 (pair_bytes b.outputs)
    → put_mid outputs (needed - outputs) (put_mid body (outputs - body) (table ++ drop body old) cells) outs ≡ file_of b ++ drop (length (file_of b)) old
pieces_put b law body outputs needed old table cells outs eb eo en et ec ez =
    let first = field 1 (b.table.n ∷ b.table.m ∷ []) ++ field 2 b.table.entries in
    let whole : body ≡ 0 + length first = omega arith in
    let e1 : table ++ drop body old ≡ put_at 0 first old = ap (λ ys. ys ++ drop body old) et ∙ ap (λ i. first ++ drop i old) whole in
    let e2 = mid_put body (outputs - body) (table ++ drop body old) cells (cell_fields b.cells) ec (omega (arith, length_cells b.cells)) in
    let o2 = put_mid body (outputs - body) (table ++ drop body old) cells in
    let e3 = mid_put outputs (needed - outputs) o2 outs (field 4 (pair_bytes b.outputs)) ez (omega (arith, length_pairs b.outputs, law.complete)) in
    file_put b body outputs old (table ++ drop body old) o2 _ eb eo e1 e2 e3

-- how much memory it needs, and the answer
pub needed_is : (b : Whole) → LawfulBlock b → (needed : ℕ) → needed ≡ 8 + length b.table.entries + 14 * length b.cells + 3 + 4 * b.table.m → needed ≡ length (file_of b)
needed_is b law needed e = let l = file_length b law in let w = law.table.whole in omega arith

pub write_short : (needed there long : ℕ) → needed ≡ long → there < needed → Err (Memory needed) ≡ write_answer long there
write_short needed there long e h = let t : ltb there needed ≡ true = lt-ltb there needed h in subst (λ n. Err (Memory needed) ≡ write_answer n there) e (rw t)

pub write_enough : (needed there long : ℕ) → needed ≡ long → needed ≤ there → Ok needed ≡ write_answer long there
write_enough needed there long e h = let t : ltb there needed ≡ false = le-ltb there needed h in subst (λ n. Ok needed ≡ write_answer n there) e (rw t)
