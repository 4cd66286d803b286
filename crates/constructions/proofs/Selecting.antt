-- One of several is selected by a number, and masks that take up a change.
use Rattle.std.proofs.Common.{◌≡◌, ℕ, zero, suc, ◌<◌, Bool, true, false, ◌&&◌, eqb, leb, sym, refl, ap, ◌∙◌, arith}
use lib.Dec.{eqb-suc-zero, leb-suc-zero}
use Rattle.std.proofs.lemmas.Bool.{leb-true, leb-false, eqb-true, eqb-false, le-leb, lt-leb}
use Rattle.isolation.specs.Patterns.{xor}

-- whether the selecting number is at most j, one more at a time
pub up_to_none : (y : ℕ) → eqb y 0 ≡ leb y 0
up_to_none zero = refl
up_to_none (suc y) = eqb-suc-zero y ∙ sym (leb-suc-zero y)

pub up_to_more : (y j : ℕ) → xor (leb y j) (eqb y (suc j)) ≡ leb y (suc j)
up_to_more y j = go (leb y j) (eqb y (suc j)) refl refl
  where
    lower : (y ≡ suc j → ⊥) → j < y → suc j < y
    lower ne l = omega arith

    go : (a b : Bool) → leb y j ≡ a → eqb y (suc j) ≡ b → xor a b ≡ leb y (suc j)
    go true true p q = absurd (omega (arith, leb-true y j p, eqb-true y (suc j) q))
    go true false p q = let l = leb-true y j p in sym (le-leb y (suc j) (omega arith))
    go false true p q = let l = eqb-true y (suc j) q in sym (le-leb y (suc j) (omega arith))
    go false false p q = sym (lt-leb y (suc j) (lower (eqb-false y (suc j) q) (leb-false y j p)))

-- what a selector lets through is the selected one
pub selected_one : (y i : ℕ) (f : ℕ → Bool) → (eqb y i && f i) ≡ (eqb y i && f y)
selected_one y i f = go (eqb y i) refl
  where
    go : (b : Bool) → eqb y i ≡ b → (b && f i) ≡ (b && f y)
    go true e = ap f (sym (eqb-true y i e))
    go false e = refl

pub and_xor : (a b v : Bool) → xor (a && v) (b && v) ≡ (xor a b && v)
and_xor true true true = refl
and_xor true true false = refl
and_xor true false true = refl
and_xor true false false = refl
and_xor false true v = refl
and_xor false false v = refl

pub unmasked : (r v : Bool) → xor r (xor v r) ≡ v
unmasked true true = refl
unmasked true false = refl
unmasked false true = refl
unmasked false false = refl

-- a mask takes up the change from u to v
pub taken_up : (u v r : Bool) → xor u r ≡ xor v (xor r (xor u v))
taken_up true true true = refl
taken_up true true false = refl
taken_up true false true = refl
taken_up true false false = refl
taken_up false true true = refl
taken_up false true false = refl
taken_up false false true = refl
taken_up false false false = refl
