-- Whole files: the laws of reading and writing.
use Rattle.std.proofs.Common.{◌≡◌, ℕ, ◌+◌, ◌*◌, ◌^◌, Bool, ◌⊎◌, List, [], ◌∷◌, ◌++◌, length, get_or, Ok, Err, Result, sym, refl, ap, ◌∙◌, subst, inl, inr, arith, length-append}
use Rattle.fault.specs.declared.FieldFault.{FieldFault}
use Rattle.netlist.specs.declared.cell.Cell.{Cell}
use Rattle.block.specs.Blocks.{Table, Whole, LawfulBlock}
use Rattle.block.specs.Tables.{table_of}
use Rattle.blockfile.specs.Format.{field, cell_fields, pair_bytes, file_of}
use Rattle.blockfile.specs.Reading.{and_then, opened, in_bounds, one_to_four, entry_bounds, body_read, block_read}
use Rattle.blockfile.specs.Laws.{WrittenIsRead, ReadIsWritten, ReadIsLawful, OneFileEach, OneAnswerEach}
use Rattle.blockfile.proofs.Steps.{err_ok, ok_same, and_then_ok, and_then_at}
use Rattle.blockfile.proofs.Opening.{Opened, opened_field, opened_is, opened_written, opened_bytes}
use Rattle.blockfile.proofs.Bounds.{Passes, passes, passed, one_to_four_is, is_one_to_four, entries_small, small_entries}
use Rattle.blockfile.proofs.Bodies.{BodyIn, body_written, body_in, body_is_written, body_lawful}
use Rattle.blockfile.proofs.Pairs.{length_pairs}

-- the tests of the two sizes
abbrev pub size_bounds : ℕ → ℕ → List (ℕ × Bool)
size_bounds n m = (3, one_to_four n) ∷ (4, one_to_four m) ∷ []

abbrev pub whole_of : Table → List Cell → List (ℕ × ℕ) → Whole
whole_of t cells outputs = record { table = t; cells = cells; outputs = outputs }

-- what is read behind the entries, behind the sizes
abbrev pub body_part : ℕ → ℕ → ℕ → List ℕ × List ℕ → Result Whole FieldFault
body_part total n m e = and_then (body_read total total (8 + 2 ^ n) (2 * n) m e.1) (λ b. Ok (whole_of (table_of n m e.0) b.0 b.1))

abbrev pub entry_part : ℕ → ℕ → ℕ → List ℕ × List ℕ → Result Whole FieldFault
entry_part total n m e = and_then (in_bounds (entry_bounds m 8 e.0)) (λ _. body_part total n m e)

abbrev pub table_part : ℕ → ℕ → ℕ → List ℕ → Result Whole FieldFault
table_part total n m rest = and_then (opened total 5 2 (2 ^ n) rest) (entry_part total n m)

abbrev pub size_part : ℕ → List ℕ × List ℕ → Result Whole FieldFault
size_part total h = and_then (in_bounds (size_bounds (get_or h.0 0 0) (get_or h.0 1 0))) (λ _. table_part total (get_or h.0 0 0) (get_or h.0 1 0) h.1)

-- the parts that go well, one after another
block_steps : (bytes rest after entries : List ℕ) (n m : ℕ) (cells : List Cell) (outs : List (ℕ × ℕ)) → opened (length bytes) 0 1 2 bytes ≡ Ok (n ∷ m ∷ [], rest)
    → Passes (size_bounds n m) → opened (length bytes) 5 2 (2 ^ n) rest ≡ Ok (entries, after) → Passes (entry_bounds m 8 entries)
    → body_read (length bytes) (length bytes) (8 + 2 ^ n) (2 * n) m after ≡ Ok (cells, outs) → block_read bytes ≡ Ok (whole_of (table_of n m entries) cells outs)
block_steps bytes rest after entries n m cells outs h s e b body =
    let t = length bytes in
    and_then_at (opened t 0 1 2 bytes) (size_part t) (n ∷ m ∷ [], rest) h
    ∙ and_then_at (in_bounds (size_bounds n m)) (λ _. table_part t n m rest) tt (passed (size_bounds n m) s)
    ∙ and_then_at (opened t 5 2 (2 ^ n) rest) (entry_part t n m) (entries, after) e
    ∙ and_then_at (in_bounds (entry_bounds m 8 entries)) (λ _. body_part t n m (entries, after)) tt (passed (entry_bounds m 8 entries) b)
    ∙ and_then_at (body_read t t (8 + 2 ^ n) (2 * n) m after) (λ b. Ok (whole_of (table_of n m entries) b.0 b.1)) (cells, outs) body

pub length_cells : (cells : List Cell) → length (cell_fields cells) ≡ 14 * length cells
length_cells [] = refl
length_cells (x ∷ xs) = omega (arith, length_cells xs)

pub file_length : (b : Whole) → LawfulBlock b → length (file_of b) ≡ 11 + 2 ^ b.table.n + 4 * b.table.m + 14 * length b.cells
file_length b law =
    let outs = field 4 (pair_bytes b.outputs) in
    let e1 = length-append (field 2 b.table.entries) (cell_fields b.cells ++ outs) in
    let e2 = length-append (cell_fields b.cells) outs in
    let e3 = length_cells b.cells in
    let e4 = length_pairs b.outputs in
    let e5 = law.complete in
    let e6 = law.table.whole in
    omega arith

pub written_is_read : WrittenIsRead
written_is_read b law =
    let n = b.table.n in
    let m = b.table.m in
    let t = law.table in
    let total = length (file_of b) in
    let after = cell_fields b.cells ++ field 4 (pair_bytes b.outputs) in
    block_steps (file_of b) (field 2 b.table.entries ++ after) after b.table.entries n m b.cells b.outputs
    (opened_field total 0 1 2 (n ∷ m ∷ []) (field 2 b.table.entries ++ after) refl)
    (is_one_to_four n t.some_inputs t.few_inputs, (is_one_to_four m t.some_outputs t.few_outputs, tt))
    (opened_field total 5 2 (2 ^ n) b.table.entries after t.whole)
    (small_entries m 8 b.table.entries (λ k h. t.small k (omega (arith, t.whole))))
    (body_written total total (8 + 2 ^ n) (2 * n) m b.cells b.outputs (omega (arith, file_length b law)) law.net.fit law.net.size law.complete
    (λ c h. (law.zeroth c (omega (arith, law.complete)), law.first c (omega (arith, law.complete)))))

-- what a reading that went well has found
pub record BlockIn (bytes : List ℕ) (b : Whole) : Type 0 where
  pub sizes : List ℕ
  pub rest : List ℕ
  pub after : List ℕ
  pub opens : Opened 1 2 bytes sizes rest
  pub inputs : b.table.n ≡ get_or sizes 0 0
  pub outputs : b.table.m ≡ get_or sizes 1 0
  pub few : Passes (size_bounds b.table.n b.table.m)
  pub table : Opened 2 (2 ^ b.table.n) rest b.table.entries after
  pub small : Passes (entry_bounds b.table.m 8 b.table.entries)
  pub body : BodyIn (2 * b.table.n) b.table.m after b.cells b.outputs

pub block_in : (bytes : List ℕ) (b : Whole) → block_read bytes ≡ Ok b → BlockIn bytes b
block_in bytes b e =
    let t = length bytes in
    let h = and_then_ok (opened t 0 1 2 bytes) (size_part t) b e in
    let n = get_or h.0.0 0 0 in
    let m = get_or h.0.0 1 0 in
    let s = and_then_ok (in_bounds (size_bounds n m)) (λ _. table_part t n m h.0.1) b h.2 in
    let d = and_then_ok (opened t 5 2 (2 ^ n) h.0.1) (entry_part t n m) b s.2 in
    let i = and_then_ok (in_bounds (entry_bounds m 8 d.0.0)) (λ _. body_part t n m d.0) b d.2 in
    let q = and_then_ok (body_read t t (8 + 2 ^ n) (2 * n) m d.0.1) (λ b. Ok (whole_of (table_of n m d.0.0) b.0 b.1)) b i.2 in
    let w = whole_of (table_of n m d.0.0) q.0.0 q.0.1 in
    subst (BlockIn bytes) {x = w} (ok_same w b q.2)
    (record {
      sizes = h.0.0;
      rest = h.0.1;
      after = d.0.1;
      opens = opened_is t 0 1 2 bytes h.0 h.1;
      inputs = refl {a = n};
      outputs = refl {a = m};
      few = passes (size_bounds n m) s.1;
      table = opened_is t 5 2 (2 ^ n) h.0.1 d.0 d.1;
      small = passes (entry_bounds m 8 d.0.0) i.1;
      body = body_in t t (8 + 2 ^ n) (2 * n) m d.0.1 q.0.0 q.0.1 q.1;
    })

two_long : (bs : List ℕ) → length bs ≡ 2 → bs ≡ get_or bs 0 0 ∷ get_or bs 1 0 ∷ []
two_long [] e = absurd (omega arith)
two_long (a ∷ []) e = absurd (omega arith)
two_long (a ∷ b ∷ []) e = refl
two_long (a ∷ b ∷ c ∷ bs) e = absurd (omega arith)

pub read_is_written : ReadIsWritten
read_is_written bytes b small e =
    let i = block_in bytes b e in
    let s1 = (opened_bytes 1 2 bytes i.sizes i.rest small i.opens).1 in
    let s2 = (opened_bytes 2 (2 ^ b.table.n) i.rest b.table.entries i.after s1 i.table).1 in
    let sizes : b.table.n ∷ b.table.m ∷ [] ≡ i.sizes =
    ap (λ k. k ∷ b.table.m ∷ []) i.inputs ∙ ap (λ k. get_or i.sizes 0 0 ∷ k ∷ []) i.outputs ∙ sym (two_long i.sizes i.opens.long)
    in
    ap (λ ys. field 1 (b.table.n ∷ b.table.m ∷ []) ++ (field 2 b.table.entries ++ ys)) (body_is_written (2 * b.table.n) b.table.m i.after b.cells b.outputs s2 i.body)
    ∙ ap (λ ys. field 1 (b.table.n ∷ b.table.m ∷ []) ++ ys) (opened_written 2 (2 ^ b.table.n) i.rest b.table.entries i.after s1 i.table)
    ∙ ap (λ ys. field 1 ys ++ i.rest) sizes
    ∙ opened_written 1 2 bytes i.sizes i.rest small i.opens

pub read_is_lawful : ReadIsLawful
read_is_lawful bytes b e =
    let i = block_in bytes b e in
    let n = one_to_four_is b.table.n i.few.0 in
    let m = one_to_four_is b.table.m i.few.1.0 in
    let body = body_lawful (2 * b.table.n) b.table.m i.after b.cells b.outputs (omega (arith, n.1)) i.body in
    record {
      table = record {
        some_inputs = n.0;
        few_inputs = n.1;
        some_outputs = m.0;
        few_outputs = m.1;
        whole = i.table.long;
        small = λ a h. entries_small b.table.m 8 b.table.entries i.small a (omega (arith, i.table.long));
      };
      net = record { some = n.0; few = omega (arith, n.1); size = body.size; fit = body.fit };
      complete = body.complete;
      zeroth = λ c h. (body.below c (omega (arith, body.complete))).0;
      first = λ c h. (body.below c (omega (arith, body.complete))).1;
    }

pub one_file_each : OneFileEach
one_file_each a b la lb e = ok_same a b (sym (written_is_read a la) ∙ ap block_read e ∙ written_is_read b lb)

pub one_answer_each : OneAnswerEach
one_answer_each bytes =
    record {
      either = given (block_read bytes) refl;
      not_both = λ b f p q. err_ok f b (sym q ∙ p);
      one_block = λ a b p q. ok_same a b (sym p ∙ q);
      one_fault = λ f g p q. err_same f g (sym p ∙ q);
    }
  where
    given : (r : Result Whole FieldFault) → block_read bytes ≡ r → ((b : Whole) × (block_read bytes ≡ Ok b)) ⊎ ((f : FieldFault) × (block_read bytes ≡ Err f))
    given (Ok b) e = inl (b, e)
    given (Err f) e = inr (f, e)

    err_same : (f g : FieldFault) → ◌≡◌ {A = Result Whole FieldFault} (Err f) (Err g) → f ≡ g
    err_same f g e = cc
