-- The answers of the checks, part by part.
use Rattle.std.proofs.Common.{◌≡◌, ℕ, suc, ◌+◌, ◌-◌, ◌*◌, ◌≤◌, Bool, true, false, cond, ◌&&◌, eqb, ltb, List, [], ◌∷◌, length, get_or, Ok, Err, Result, sym, refl, ap, ◌∙◌, arith, eqb-true}
use Rattle.fault.specs.declared.FieldFault.{FieldFault}
use Rattle.fault.specs.declared.FieldFault.TheVariants.{Trailing}
use Rattle.blockfile.specs.Reading.{and_then, opened, in_bounds, cell_from, cell_bounds, pairs_from, pair_bounds, ended, outputs_read, body_read}
use Rattle.blockfile.specs.Answers.{Answer, forget}
use Rattle.blockfile.proofs.Bodies.{a_cell, the_outputs}

module _ {A B : Type 0} where
  forget_made : (r : Result A FieldFault) (f : A → B) → forget (and_then r (λ x. Ok (f x))) ≡ forget r
  forget_made (Ok x) f = refl
  forget_made (Err e) f = refl

-- what the loop over the cells keeps: those on the wires from `first` up to w are read, and the rest is from place `at` on
pub record BodyKept (total first m from : ℕ) (all : List ℕ) (at w : ℕ) (rest : List ℕ) : Type 0 where
  pub ends : at + length rest ≡ total
  pub since : first ≤ w
  pub far : 8 + 14 * (w - first) ≤ at
  pub left : forget (body_read (total - (w - first)) total at w m rest) ≡ forget (body_read total total from first m all)

-- the turns that are left after one more
abbrev turns_left : ℕ → ℕ → ℕ → ℕ
turns_left total first w = total - (w + 1 - first)

ends_so : {A : Type 0} (place : ℕ) (behind : List ℕ) (x : A) → forget (and_then (ended place behind) (λ _. Ok x)) ≡ ended place behind
ends_so place [] x = refl
ends_so place (_ ∷ _) x = refl

module _ (total first m from : ℕ) (all : List ℕ) (at w : ℕ) (rest : List ℕ) (k : BodyKept total first m from all at w rest) where
  opens : (tag size : ℕ) → opened total at tag size rest ≡ opened (at + length rest) at tag size rest
  opens tag size = ap (λ t. opened t at tag size rest) (sym k.ends)

  -- one turn: a cell, or the outputs
  turn : (due : Bool) → eqb (get_or rest 0 0) 3 && ltb w 4096 ≡ due → forget (cond due (a_cell (turns_left total first w) total at w m rest) (the_outputs total at w m rest)) ≡ forget (body_read total total from first m all)
  turn due e =
      let n : total - (w - first) ≡ suc (turns_left total first w) = omega (arith, k.ends, k.since, k.far) in
      ap (λ d. forget (cond d (a_cell (turns_left total first w) total at w m rest) (the_outputs total at w m rest))) (sym e) ∙ ap (λ t. forget (body_read t total at w m rest)) (sym n) ∙ k.left

  pub cell_cut : (f : FieldFault) → eqb (get_or rest 0 0) 3 && ltb w 4096 ≡ true → opened (at + length rest) at 3 11 rest ≡ Err f → Err f ≡ forget (body_read total total from first m all)
  cell_cut f due o = let t = opens 3 11 ∙ o in (rw t refl) ∙ turn true due

  pub cell_out : (f : FieldFault) (place : ℕ) (payload behind : List ℕ) → eqb (get_or rest 0 0) 3 && ltb w 4096 ≡ true → opened (at + length rest) at 3 11 rest ≡ Ok (payload, behind) → place ≡ at + 3
      → Err f ≡ in_bounds (cell_bounds place w payload) → Err f ≡ forget (body_read total total from first m all)
  cell_out f place payload behind due o e b = let t = opens 3 11 ∙ o in let b2 = sym b in (rw (t, ← e, b2) refl) ∙ turn true due

  pub cell_read : (place next : ℕ) (payload behind : List ℕ) (u : Unit {0}) → eqb (get_or rest 0 0) 3 && ltb w 4096 ≡ true → opened (at + length rest) at 3 11 rest ≡ Ok (payload, behind) → place ≡ at + 3
      → Ok u ≡ in_bounds (cell_bounds place w payload) → next ≡ at + 3 + 11 → next + length behind ≡ at + length rest → BodyKept total first m from all next (w + 1) behind
  cell_read place next payload behind u due o e b n l =
      let t = opens 3 11 ∙ o in
      let b2 = sym b in
      let n2 : at + 14 ≡ next = omega arith in
      let w2 : suc w ≡ w + 1 = omega arith in
      let same : forget (a_cell (turns_left total first w) total at w m rest) ≡ forget (body_read (turns_left total first w) total (at + 14) (suc w) m behind) =
      rw (t, ← e, b2) (forget_made (body_read (turns_left total first w) total (at + 14) (suc w) m behind) (λ q. (cell_from payload ∷ q.0, q.1)))
      in
      record {
        ends = l ∙ k.ends;
        since = omega (arith, k.since);
        far = omega (arith, k.since, k.far);
        left = ap (λ p. forget (body_read (turns_left total first w) total p (w + 1) m behind)) (sym n2) ∙ ap (λ v. forget (body_read (turns_left total first w) total (at + 14) v m behind)) (sym w2) ∙ sym same ∙ turn true due;
      }

  outputs_left : (r : Answer) → eqb (get_or rest 0 0) 3 && ltb w 4096 ≡ false → r ≡ forget (outputs_read total at w m rest) → r ≡ forget (body_read total total from first m all)
  outputs_left r due e = e ∙ sym (forget_made (outputs_read total at w m rest) (λ o. ([], o))) ∙ turn false due

  pub outputs_cut : (f : FieldFault) (size : ℕ) → eqb (get_or rest 0 0) 3 && ltb w 4096 ≡ false → size ≡ 4 * m → opened (at + length rest) at 4 size rest ≡ Err f
      → Err f ≡ forget (body_read total total from first m all)
  outputs_cut f size due s o = let t = opens 4 (4 * m) ∙ ap (λ n. opened (at + length rest) at 4 n rest) (sym s) ∙ o in outputs_left (Err f) due (rw t refl)

  pub outputs_out : (f : FieldFault) (size place count : ℕ) (payload behind : List ℕ) → eqb (get_or rest 0 0) 3 && ltb w 4096 ≡ false → size ≡ 4 * m → opened (at + length rest) at 4 size rest ≡ Ok (payload, behind)
      → place ≡ at + 3 → count ≡ m → Err f ≡ in_bounds (pair_bounds w place (pairs_from count 0 payload)) → Err f ≡ forget (body_read total total from first m all)
  outputs_out f size place count payload behind due s o e n b =
      let t = opens 4 (4 * m) ∙ ap (λ n. opened (at + length rest) at 4 n rest) (sym s) ∙ o in
      let b2 = ap (λ i. in_bounds (pair_bounds w place (pairs_from i 0 payload))) (sym n) ∙ sym b in
      outputs_left (Err f) due (rw (t, ← e, b2) refl)

  pub outputs_end : (r : Answer) (size place next count : ℕ) (payload behind : List ℕ) (u : Unit {0}) → eqb (get_or rest 0 0) 3 && ltb w 4096 ≡ false → size ≡ 4 * m
      → opened (at + length rest) at 4 size rest ≡ Ok (payload, behind) → place ≡ at + 3 → count ≡ m → Ok u ≡ in_bounds (pair_bounds w place (pairs_from count 0 payload)) → next ≡ at + 3 + size
      → r ≡ ended next behind → r ≡ forget (body_read total total from first m all)
  outputs_end r size place next count payload behind u due s o e i b n h =
      let t = opens 4 (4 * m) ∙ ap (λ n. opened (at + length rest) at 4 n rest) (sym s) ∙ o in
      let b2 = ap (λ j. in_bounds (pair_bounds w place (pairs_from j 0 payload))) (sym i) ∙ sym b in
      let n2 : place + 4 * m ≡ next = omega arith in
      outputs_left r due (h ∙ sym (rw (t, ← e, b2, n2) (ends_so next behind (pairs_from m 0 payload))))

pub ended_here : (place : ℕ) (rest : List ℕ) → true ≡ eqb (length rest) 0 → Ok tt ≡ ended place rest
ended_here place [] e = refl
ended_here place (x ∷ xs) e = absurd (let z = eqb-true (length (x ∷ xs)) 0 (sym e) in omega arith)

pub ended_not : (place : ℕ) (rest : List ℕ) → false ≡ eqb (length rest) 0 → Err (Trailing place) ≡ ended place rest
ended_not place [] e = absurd (let z : ◌≡◌ {A = ℕ} 0 1 = cc in omega arith)
ended_not place (x ∷ xs) e = refl
