-- A pattern on a set of wires says just what the values on all wires have in common on the set.
use Rattle.std.proofs.Common.{◌≡◌, ℕ, zero, suc, ◌+◌, Bool, true, false, cond, List, [], ◌∷◌, ◌++◌, map, length, get_or, sym, refl, ap, ap₂, ◌∙◌, arith}
use Rattle.std.specs.Bool.{beq}
use Rattle.std.proofs.lemmas.Bool.{and_parts}
use Rattle.std.specs.List.{range_with_len}
use Rattle.std.proofs.lemmas.List.FromFn.{fill_by_all}
use Rattle.netlist.specs.Circuit.{Wires}
use Rattle.isolation.specs.Agreeing.{Agree}
use Rattle.isolation.specs.Patterns.{later, keep, pattern, one_if, same, size}

size_later : (n : ℕ) (S : Wires) → size (suc n) S ≡ one_if (S 0) + size n (later S)
size_later zero S = refl
size_later (suc n) S = let r = size_later n S in omega arith

pub length_pattern : {A : Type 0} (S : Wires) (vs : List A) → length (pattern S vs) ≡ size (length vs) S
length_pattern S [] = refl
length_pattern {A} S (v ∷ vs) = kept (S 0) (length_pattern (later S) vs) ∙ sym (size_later (length vs) S)
  where
    kept : (b : Bool) → length (pattern (later S) vs) ≡ size (length vs) (later S)
        → length (keep b v (pattern (later S) vs)) ≡ one_if b + size (length vs) (later S)
    kept true h = omega arith
    kept false h = omega arith

-- a pattern of mapped values
pub pattern_map : {A B : Type 0} (f : A → B) (S : Wires) (vs : List A) → pattern S (map f vs) ≡ map f (pattern S vs)
pattern_map f S [] = refl
pattern_map f S (v ∷ vs) = ap (keep (S 0) (f v)) (pattern_map f (later S) vs) ∙ kept (S 0)
  where
    kept : (b : Bool) → keep b (f v) (map f (pattern (later S) vs)) ≡ map f (keep b v (pattern (later S) vs))
    kept true = refl
    kept false = refl

-- a pattern of one wire more
pub pattern_push : {A : Type 0} (S : Wires) (vs : List A) (v : A) → pattern S (vs ++ (v ∷ [])) ≡ pattern S vs ++ keep (S (length vs)) v []
pattern_push S [] v = refl
pattern_push S (u ∷ us) v = ap (keep (S 0) u) (pattern_push (later S) us v) ∙ kept (S 0)
  where
    kept : (b : Bool) → keep b u (pattern (later S) us ++ keep (S (suc (length us))) v []) ≡ keep b u (pattern (later S) us) ++ keep (S (suc (length us))) v []
    kept true = refl
    kept false = refl

-- by the list of the wires of S
pub pattern_wires : {A : Type 0} (S : Wires) (vs : List A) (z : A) → map (λ w. get_or vs w z) (pattern S (range_with_len 0 (length vs))) ≡ pattern S vs
pattern_wires S vs z =
    sym (pattern_map (λ w. get_or vs w z) S (range_with_len 0 (length vs)))
    ∙ ap (pattern S) (sym (fill_by_all (λ w. get_or vs w z) vs (length vs) z refl (λ k h. refl)))

pub agree_pattern : (S : Wires) (u v : List Bool) → length u ≡ length v → Agree S u v → pattern S u ≡ pattern S v
agree_pattern S [] [] h a = refl
agree_pattern S [] (y ∷ v) h a = absurd (omega arith)
agree_pattern S (x ∷ u) [] h a = absurd (omega arith)
agree_pattern S (x ∷ u) (y ∷ v) h a = kept (S 0) (a 0) (agree_pattern (later S) u v (omega arith) (λ w e. a (suc w) e))
  where
    kept : (b : Bool) → (b ≡ true → x ≡ y) → pattern (later S) u ≡ pattern (later S) v → keep b x (pattern (later S) u) ≡ keep b y (pattern (later S) v)
    kept true e r = let f = e refl in cc
    kept false e r = r

-- a pattern put back on its wires, n in all
abbrev first : List Bool → Bool
first [] = false
first (q ∷ qs) = q

abbrev rest : List Bool → List Bool
rest [] = []
rest (q ∷ qs) = qs

abbrev pub put : Wires → ℕ → List Bool → List Bool
put S zero q = []
put S (suc n) q = cond (S 0) (first q) false ∷ put (later S) n (cond (S 0) (rest q) q)

pub length_put : (S : Wires) (n : ℕ) (q : List Bool) → length (put S n q) ≡ n
length_put S zero q = refl
length_put S (suc n) q = ap suc (length_put (later S) n (cond (S 0) (rest q) q))

pub put_agrees : (S : Wires) (v : List Bool) → Agree S v (put S (length v) (pattern S v))
put_agrees S [] w h = refl
put_agrees S (v ∷ vs) zero h = sym (kept (S 0) h)
  where
    kept : (b : Bool) → b ≡ true → cond b (first (keep b v (pattern (later S) vs))) false ≡ v
    kept true h = refl
    kept false h = cc
put_agrees S (v ∷ vs) (suc w) h = put_agrees (later S) vs w h ∙ ap (λ q. get_or (put (later S) (length vs) q) w false) (sym (kept (S 0)))
  where
    kept : (b : Bool) → cond b (rest (keep b v (pattern (later S) vs))) (keep b v (pattern (later S) vs)) ≡ pattern (later S) vs
    kept true = refl
    kept false = refl

-- the tests on bits and on lists
pub beq_eq : (s t : Bool) → beq s t ≡ true → s ≡ t
beq_eq true true h = refl
beq_eq true false h = sym h
beq_eq false true h = h
beq_eq false false h = refl

pub same_eq : (a b : List Bool) → same a b ≡ true → a ≡ b
same_eq [] [] h = refl
same_eq [] (y ∷ b) h = grind arith
same_eq (x ∷ a) [] h = grind arith
same_eq (x ∷ a) (y ∷ b) h = let p = and_parts (beq x y) (same a b) h in ap₂ (λ z l. z ∷ l) (beq_eq x y p.0) (same_eq a b p.1)
