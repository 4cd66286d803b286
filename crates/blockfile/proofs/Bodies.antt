-- The cells and the outputs: what is written is read, and what a reading that went well has found.
use Rattle.std.proofs.Common.{◌≡◌, ℕ, zero, suc, ◌+◌, ◌*◌, ◌<◌, ◌≤◌, Bool, true, false, cond, ◌&&◌, eqb, ltb, List, [], ◌∷◌, ◌++◌, length, get_or, take, drop, Ok, Result, sym, refl, ap, ◌∙◌, subst, append_assoc, add-zero, arith, length-append, ltb-true, lt-ltb}
use Rattle.std.proofs.lemmas.Bool.{and_parts}
use Rattle.std.proofs.lemmas.List.{append-nil}
use Rattle.fault.specs.declared.FieldFault.{FieldFault}
use Rattle.netlist.specs.declared.cell.Cell.{Cell}
use Rattle.netlist.specs.Cells.{Fits, no_cell}
use Rattle.blockfile.specs.Format.{field, cell_bytes, cell_fields, pair_bytes}
use Rattle.blockfile.specs.Reading.{and_then, opened, in_bounds, cell_from, cell_bounds, pairs_from, pair_bounds, ended, outputs_read, body_read}
use Rattle.blockfile.specs.Laws.{Bytes}
use Rattle.blockfile.proofs.Steps.{err_ok, ok_same, ok_parts, and_then_ok}
use Rattle.blockfile.proofs.Opening.{Opened, opened_field, opened_is, opened_written, opened_bytes, opened_drop, opened_payload}
use Rattle.blockfile.proofs.Bounds.{passes, passed, cell_in_bounds, in_bounds_cell, PairsBelow, pairs_in_bounds, in_bounds_pairs}
use Rattle.blockfile.proofs.Cells.{cell_back, kind_small, bytes_back}
use Rattle.blockfile.proofs.Pairs.{length_pairs, length_from, pairs_back, pair_bytes_back}

-- the cells fit the wires from w on
abbrev pub FitFrom : ℕ → List Cell → Type 0
FitFrom w cells = (k : ℕ) → k < length cells → Fits (w + k) (get_or cells k no_cell)

fit_first : (w : ℕ) (x : Cell) (xs : List Cell) → FitFrom w (x ∷ xs) → Fits w x
fit_first w x xs h = subst (λ i. Fits i x) (add-zero w) (h 0 (omega arith))

fit_rest : (w : ℕ) (x : Cell) (xs : List Cell) → FitFrom w (x ∷ xs) → FitFrom (suc w) xs
fit_rest w x xs h k l = let e : w + suc k ≡ suc w + k = omega arith in subst (λ i. Fits i (get_or xs k no_cell)) e (h (suc k) (omega arith))

fit_more : (w : ℕ) (x : Cell) (xs : List Cell) → Fits w x → FitFrom (suc w) xs → FitFrom w (x ∷ xs)
fit_more w x xs h hs zero l = subst (λ i. Fits i x) (sym (add-zero w)) h
fit_more w x xs h hs (suc k) l = let e : suc w + k ≡ w + suc k = omega arith in subst (λ i. Fits i (get_or xs k no_cell)) e (hs k (omega arith))

pub outputs_written : (total at w m : ℕ) (outs : List (ℕ × ℕ)) → length outs ≡ m → PairsBelow w outs → outputs_read total at w m (field 4 (pair_bytes outs)) ≡ Ok outs
outputs_written total at w m outs e below =
    let payload = pair_bytes outs in
    let back : pairs_from m 0 payload ≡ outs = ap (λ n. pairs_from n 0 payload) (sym e) ∙ pairs_back outs in
    let o : opened total at 4 (4 * m) (field 4 payload) ≡ Ok (payload, []) =
    ap (opened total at 4 (4 * m)) (sym (append-nil (field 4 payload))) ∙ opened_field total at 4 (4 * m) payload [] (length_pairs outs ∙ ap (λ n. 4 * n) e)
    in
    let b : in_bounds (pair_bounds w (at + 3) (pairs_from m 0 payload)) ≡ Ok tt = ap (λ ps. in_bounds (pair_bounds w (at + 3) ps)) back ∙ passed (pair_bounds w (at + 3) outs) (in_bounds_pairs w (at + 3) outs below) in
    rw (o, b, back)

-- one cell, and then the rest
cell_step : (turns total at w m : ℕ) (bytes payload rest : List ℕ) (cells : List Cell) (outs : List (ℕ × ℕ)) → get_or bytes 0 0 ≡ 3 → w < 4096
    → opened total at 3 11 bytes ≡ Ok (payload, rest) → in_bounds (cell_bounds (at + 3) w payload) ≡ Ok tt → body_read turns total (at + 14) (suc w) m rest ≡ Ok (cells, outs)
    → body_read (suc turns) total at w m bytes ≡ Ok (cell_from payload ∷ cells, outs)
cell_step turns total at w m bytes payload rest cells outs tag free o b ih = let f : ltb w 4096 ≡ true = lt-ltb w 4096 free in rw (tag, f, o, b, ih)

pub body_written : (turns total at w m : ℕ) (cells : List Cell) (outs : List (ℕ × ℕ)) → length cells < turns → FitFrom w cells → w + length cells ≤ 4096 → length outs ≡ m → PairsBelow (w + length cells) outs
    → body_read turns total at w m (cell_fields cells ++ field 4 (pair_bytes outs)) ≡ Ok (cells, outs)
body_written zero total at w m cells outs t fit size e below = absurd (omega arith)
body_written (suc turns) total at w m [] outs t fit size e below =
    ap (λ r. and_then r (λ o. Ok ([], o))) (outputs_written total at w m outs e (subst (λ n. PairsBelow n outs) (add-zero w) below))
body_written (suc turns) total at w m (x ∷ xs) outs t fit size e below =
    let rest = cell_fields xs ++ field 4 (pair_bytes outs) in
    let here : Fits w x = fit_first w x xs fit in
    let more : suc w + length xs ≡ w + length (x ∷ xs) = omega arith in
    let join : cell_fields (x ∷ xs) ++ field 4 (pair_bytes outs) ≡ field 3 (cell_bytes x) ++ rest = append_assoc (field 3 (cell_bytes x)) (cell_fields xs) (field 4 (pair_bytes outs)) in
    let o : opened total at 3 11 (field 3 (cell_bytes x) ++ rest) ≡ Ok (cell_bytes x, rest) = opened_field total at 3 11 (cell_bytes x) rest refl in
    let b : in_bounds (cell_bounds (at + 3) w (cell_bytes x)) ≡ Ok tt =
    passed (cell_bounds (at + 3) w (cell_bytes x)) (in_bounds_cell (at + 3) w (cell_bytes x) (kind_small x.kind) (subst (Fits w) (sym (cell_back x)) here))
    in
    let ih = body_written turns total (at + 14) (suc w) m xs outs (omega arith) (fit_rest w x xs fit) (omega arith) e (subst (λ n. PairsBelow n outs) (sym more) below) in
    ap (body_read (suc turns) total at w m) join ∙ cell_step turns total at w m (field 3 (cell_bytes x) ++ rest) (cell_bytes x) rest xs outs refl (omega arith) o b ih
    ∙ ap (λ y. Ok (y ∷ xs, outs)) (cell_back x)

-- the outputs that a reading found in what is left
pub record OutputsIn (w m : ℕ) (bytes : List ℕ) (outs : List (ℕ × ℕ)) : Type 0 where
  pub payload : List ℕ
  pub opens : Opened 4 (4 * m) bytes payload []
  pub outs_are : outs ≡ pairs_from m 0 payload
  pub below : PairsBelow w outs

-- the cell that it found there, before the rest
pub record CellIn (w : ℕ) (bytes : List ℕ) (x : Cell) (rest : List ℕ) : Type 0 where
  pub payload : List ℕ
  pub opens : Opened 3 11 bytes payload rest
  pub cell_is : x ≡ cell_from payload
  pub free : w < 4096
  pub kind : get_or payload 0 0 < 9
  pub fits : Fits w x

-- cell by cell
abbrev pub BodyIn : ℕ → ℕ → List ℕ → List Cell → List (ℕ × ℕ) → Type 0
BodyIn w m bytes [] outs = OutputsIn w m bytes outs
BodyIn w m bytes (x ∷ xs) outs = (rest : List ℕ) × CellIn w bytes x rest × BodyIn (suc w) m rest xs outs

outputs_in : (total at w m : ℕ) (bytes : List ℕ) (outs : List (ℕ × ℕ)) → outputs_read total at w m bytes ≡ Ok outs → OutputsIn w m bytes outs
outputs_in total at w m bytes outs e =
    let found : List ℕ × List ℕ → List (ℕ × ℕ) = λ p. pairs_from m 0 p.0 in
    let last : List ℕ × List ℕ → Unit {0} → Result (List (ℕ × ℕ)) FieldFault = λ p _. and_then (ended (at + 3 + 4 * m) p.1) (λ _. Ok (found p)) in
    let p = and_then_ok (opened total at 4 (4 * m) bytes) (λ p. and_then (in_bounds (pair_bounds w (at + 3) (found p))) (last p)) outs e in
    let b = and_then_ok (in_bounds (pair_bounds w (at + 3) (found p.0))) (last p.0) outs p.2 in
    let n = and_then_ok (ended (at + 3 + 4 * m) p.0.1) (λ _. Ok (found p.0)) outs b.2 in
    let are : outs ≡ pairs_from m 0 p.0.0 = sym (ok_same (found p.0) outs n.2) in
    record {
      payload = p.0.0;
      opens = subst (Opened 4 (4 * m) bytes p.0.0) (none (at + 3 + 4 * m) p.0.1 n.0 n.1) (opened_is total at 4 (4 * m) bytes p.0 p.1);
      outs_are = are;
      below = subst (PairsBelow w) (sym are) (pairs_in_bounds w (at + 3) (found p.0) (passes (pair_bounds w (at + 3) (found p.0)) b.1));
    }
  where
    none : (place : ℕ) (rest : List ℕ) (u : Unit {0}) → ended place rest ≡ Ok u → rest ≡ []
    none place [] u e = refl
    none place (x ∷ xs) u e = absurd (err_ok _ _ e)

-- a reading of the rest that went well says what the rest holds
abbrev RestIn : ℕ → ℕ → ℕ → Type 0
RestIn turns total m = (at w : ℕ) (bytes : List ℕ) (cells : List Cell) (outs : List (ℕ × ℕ)) → body_read turns total at w m bytes ≡ Ok (cells, outs) → BodyIn w m bytes cells outs

-- the two ways of one turn
abbrev pub Found : Type 0
Found = Result (List Cell × List (ℕ × ℕ)) FieldFault

abbrev pub a_cell : ℕ → ℕ → ℕ → ℕ → ℕ → List ℕ → Found
a_cell turns total at w m bytes =
    and_then (opened total at 3 11 bytes) (λ p.
    and_then (in_bounds (cell_bounds (at + 3) w p.0)) (λ _.
    and_then (body_read turns total (at + 14) (suc w) m p.1) (λ q. Ok (cell_from p.0 ∷ q.0, q.1))))

abbrev pub the_outputs : ℕ → ℕ → ℕ → ℕ → List ℕ → Found
the_outputs total at w m bytes = and_then (outputs_read total at w m bytes) (λ o. Ok ([], o))

body_split : (t : Bool) (turns total at w m : ℕ) (bytes : List ℕ) (cells : List Cell) (outs : List (ℕ × ℕ)) → (t ≡ true → w < 4096) → RestIn turns total m
    → cond t (a_cell turns total at w m bytes) (the_outputs total at w m bytes) ≡ Ok (cells, outs) → BodyIn w m bytes cells outs
body_split true turns total at w m bytes cells outs free ih e =
    let last : (p : List ℕ × List ℕ) → List Cell × List (ℕ × ℕ) → Found = λ p q. Ok (cell_from p.0 ∷ q.0, q.1) in
    let next : (p : List ℕ × List ℕ) → Unit {0} → Found = λ p _. and_then (body_read turns total (at + 14) (suc w) m p.1) (last p) in
    let p = and_then_ok (opened total at 3 11 bytes) (λ p. and_then (in_bounds (cell_bounds (at + 3) w p.0)) (next p)) (cells, outs) e in
    let b = and_then_ok (in_bounds (cell_bounds (at + 3) w p.0.0)) (next p.0) (cells, outs) p.2 in
    let q = and_then_ok (body_read turns total (at + 14) (suc w) m p.0.1) (last p.0) (cells, outs) b.2 in
    let fit = cell_in_bounds (at + 3) w p.0.0 (passes (cell_bounds (at + 3) w p.0.0) b.1) in
    let rest : BodyIn (suc w) m p.0.1 q.0.0 q.0.1 = ih (at + 14) (suc w) p.0.1 q.0.0 q.0.1 q.1 in
    let here : CellIn w bytes (cell_from p.0.0) p.0.1 =
    record { payload = p.0.0; opens = opened_is total at 3 11 bytes p.0 p.1; cell_is = refl; free = free refl; kind = fit.0; fits = fit.1 }
    in
    let k = ok_parts (cell_from p.0.0 ∷ q.0.0) cells q.0.1 outs q.2 in
    subst (λ cs. BodyIn w m bytes cs outs) k.0 (subst (BodyIn w m bytes (cell_from p.0.0 ∷ q.0.0)) k.1 (p.0.1, here, rest))
body_split false turns total at w m bytes cells outs free ih e =
    let o = and_then_ok (outputs_read total at w m bytes) (λ o. Ok ([], o)) (cells, outs) e in
    let k = ok_parts [] cells o.0 outs o.2 in
    subst (λ cs. BodyIn w m bytes cs outs) k.0 (subst (BodyIn w m bytes []) k.1 (outputs_in total at w m bytes o.0 o.1))

pub body_in : (turns total at w m : ℕ) (bytes : List ℕ) (cells : List Cell) (outs : List (ℕ × ℕ)) → body_read turns total at w m bytes ≡ Ok (cells, outs) → BodyIn w m bytes cells outs
body_in zero total at w m bytes cells outs e = absurd (err_ok _ _ e)
body_in (suc turns) total at w m bytes cells outs e =
    let tag = eqb (get_or bytes 0 0) 3 in
    body_split (tag && ltb w 4096) turns total at w m bytes cells outs (λ t. ltb-true w 4096 (and_parts tag (ltb w 4096) t).1) (λ i v bs cs os. body_in turns total i v m bs cs os) e

-- what was found is what would be written
pub body_is_written : (w m : ℕ) (bytes : List ℕ) (cells : List Cell) (outs : List (ℕ × ℕ)) → Bytes bytes → BodyIn w m bytes cells outs → cell_fields cells ++ field 4 (pair_bytes outs) ≡ bytes
body_is_written w m bytes [] outs small o =
    let opens = o.opens in
    let payload-small : Bytes o.payload = (opened_bytes 4 (4 * m) bytes o.payload [] small opens).0 in
    let back : pair_bytes outs ≡ o.payload = ap pair_bytes o.outs_are ∙ pair_bytes_back m o.payload opens.long payload-small in
    ap (field 4) back ∙ sym (append-nil (field 4 o.payload)) ∙ opened_written 4 (4 * m) bytes o.payload [] small opens
body_is_written w m bytes (x ∷ xs) outs small h =
    let rest = h.0 in
    let c = h.1 in
    let bs = opened_bytes 3 11 bytes c.payload rest small c.opens in
    let back : cell_bytes x ≡ c.payload = ap cell_bytes c.cell_is ∙ bytes_back c.payload c.opens.long bs.0 c.kind in
    append_assoc (field 3 (cell_bytes x)) (cell_fields xs) (field 4 (pair_bytes outs))
    ∙ ap (λ ys. field 3 (cell_bytes x) ++ ys) (body_is_written (suc w) m rest xs outs bs.1 h.2)
    ∙ ap (λ p. field 3 p ++ rest) back
    ∙ opened_written 3 11 bytes c.payload rest small c.opens

-- the bounds of what was found
pub record BodyBounds (w m : ℕ) (cells : List Cell) (outs : List (ℕ × ℕ)) : Type 0 where
  pub size : w + length cells ≤ 4096
  pub fit : FitFrom w cells
  pub complete : length outs ≡ m
  pub below : PairsBelow (w + length cells) outs

pub body_lawful : (w m : ℕ) (bytes : List ℕ) (cells : List Cell) (outs : List (ℕ × ℕ)) → w ≤ 4096 → BodyIn w m bytes cells outs → BodyBounds w m cells outs
body_lawful w m bytes [] outs l o =
    record {
      size = omega arith;
      fit = λ k h. absurd (omega arith);
      complete = ap length o.outs_are ∙ length_from m 0 o.payload;
      below = subst (λ n. PairsBelow n outs) (sym (add-zero w)) o.below;
    }
body_lawful w m bytes (x ∷ xs) outs l h =
    let free = h.1.free in
    let r = body_lawful (suc w) m h.0 xs outs (omega arith) h.2 in
    let more : suc w + length xs ≡ w + length (x ∷ xs) = omega arith in
    record { size = omega (arith, r.size); fit = fit_more w x xs h.1.fits r.fit; complete = r.complete; below = subst (λ n. PairsBelow n outs) more r.below }

-- how long it is, and where each part of it stands
pub body_length : (w m : ℕ) (bytes : List ℕ) (cells : List Cell) (outs : List (ℕ × ℕ)) → BodyIn w m bytes cells outs → length bytes ≡ 14 * length cells + (3 + 4 * m)
body_length w m bytes [] outs o = let n = length-append o.payload [] in let l = o.opens.long in ap length o.opens.is ∙ omega arith
body_length w m bytes (x ∷ xs) outs h =
    let n = length-append h.1.payload h.0 in
    let l = h.1.opens.long in
    ap length h.1.opens.is ∙ omega (arith, body_length (suc w) m h.0 xs outs h.2)

-- cell k is that of the eleven bytes from 14k + 3 on
pub body_cell : (w m : ℕ) (bytes : List ℕ) (cells : List Cell) (outs : List (ℕ × ℕ)) (k : ℕ) → k < length cells → BodyIn w m bytes cells outs
    → cell_from (take 11 (drop (14 * k + 3) bytes)) ≡ get_or cells k no_cell
body_cell w m bytes [] outs k l h = absurd (omega arith)
body_cell w m bytes (x ∷ xs) outs zero l h =
    let c = h.1 in
    ap cell_from (opened_payload 3 11 bytes c.payload h.0 c.opens) ∙ sym c.cell_is
body_cell w m bytes (x ∷ xs) outs (suc k) l h =
    let c = h.1 in
    let step = opened_drop 3 11 bytes c.payload h.0 (14 * k + 3) (14 * suc k + 3) (omega arith) c.opens in
    ap (λ ys. cell_from (take 11 ys)) step ∙ body_cell (suc w) m h.0 xs outs k (omega arith) h.2

-- the outputs are those of the bytes behind the cells
pub body_outputs : (w m : ℕ) (bytes : List ℕ) (cells : List Cell) (outs : List (ℕ × ℕ)) → BodyIn w m bytes cells outs
    → outs ≡ pairs_from m 0 (take (4 * m) (drop (14 * length cells + 3) bytes))
body_outputs w m bytes [] outs o = o.outs_are ∙ ap (pairs_from m 0) (sym (opened_payload 4 (4 * m) bytes o.payload [] o.opens))
body_outputs w m bytes (x ∷ xs) outs h =
    let c = h.1 in
    let step = opened_drop 3 11 bytes c.payload h.0 (14 * length xs + 3) (14 * suc (length xs) + 3) (omega arith) c.opens in
    body_outputs (suc w) m h.0 xs outs h.2 ∙ ap (λ ys. pairs_from m 0 (take (4 * m) ys)) (sym step)
