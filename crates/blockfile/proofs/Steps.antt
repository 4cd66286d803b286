-- One reading after another.
use Rattle.std.proofs.Common.{◌≡◌, ℕ, Bool, true, false, cond, Ok, Err, Result, refl, ap, arith}
use Rattle.fault.specs.declared.FieldFault.{FieldFault}
use Rattle.blockfile.specs.Reading.{and_then}

module _ {A : Type 0} where
  pub err_ok : (f : FieldFault) (y : A) → ◌≡◌ {A = Result A FieldFault} (Err f) (Ok y) → ⊥
  err_ok f y e = let z : ◌≡◌ {A = ℕ} 0 1 = cc in omega arith

  pub ok_same : (x y : A) → ◌≡◌ {A = Result A FieldFault} (Ok x) (Ok y) → x ≡ y
  ok_same x y e = cc

  pub cond_ok : (t : Bool) (r : Result A FieldFault) (f : FieldFault) (y : A) → cond t r (Err f) ≡ Ok y → (t ≡ true) × (r ≡ Ok y)
  cond_ok true r f y e = (refl, e)
  cond_ok false r f y e = absurd (err_ok f y e)

module _ {A B : Type 0} where
  pub ok_parts : (x x' : A) (y y' : B) → ◌≡◌ {A = Result (A × B) FieldFault} (Ok (x, y)) (Ok (x', y')) → (x ≡ x') × (y ≡ y')
  ok_parts x x' y y' e = let k = ok_same (x, y) (x', y') e in (ap (λ p. p.0) k, ap (λ p. p.1) k)

  -- if both go well, the first did, and so did the second at what it gave
  pub and_then_ok : (r : Result A FieldFault) (next : A → Result B FieldFault) (y : B) → and_then r next ≡ Ok y → (x : A) × (r ≡ Ok x) × (next x ≡ Ok y)
  and_then_ok (Ok x) next y e = (x, refl, e)
  and_then_ok (Err f) next y e = absurd (err_ok f y e)

  pub and_then_at : (r : Result A FieldFault) (next : A → Result B FieldFault) (x : A) → r ≡ Ok x → and_then r next ≡ next x
  and_then_at r next x e = rw e
