-- The tests of the wires of outputs, number by number.
use Rattle.std.proofs.Common.{◌≡◌, ℕ, zero, suc, ◌+◌, ◌*◌, ◌<◌, Bool, true, false, cond, ltb, List, [], ◌∷◌, length, get_or, drop, Err, Result, refl, sym, ap, ◌∙◌, arith, drop-cons}
use Rattle.std.specs.Simd.{first_chunks}
use Rattle.fault.specs.declared.FieldFault.{FieldFault}
use Rattle.fault.specs.declared.FieldFault.TheVariants.{Value}
use Rattle.blockfile.specs.Reading.{in_bounds, pair_at, pairs_from, pair_bounds}
use Rattle.blockfile.proofs.Steps.{err_ok}
use Rattle.blockfile.proofs.Pairs.{from_four}

abbrev pub wire_bounds : ℕ → ℕ → List (List ℕ) → List (ℕ × Bool)
wire_bounds w at [] = []
wire_bounds w at (n ∷ ns) = (at, ltb (pair_at n 0) w) ∷ wire_bounds w (at + 2) ns

pub pairs_by_wires : (w at m n : ℕ) (bs : List ℕ) → n ≡ 2 * m → length bs ≡ 4 * m → pair_bounds w at (pairs_from m 0 bs) ≡ wire_bounds w at (first_chunks 2 n bs)
pairs_by_wires w at zero zero bs e l = refl
pairs_by_wires w at zero (suc n) bs e l = absurd (omega arith)
pairs_by_wires w at (suc m) zero bs e l = absurd (omega arith)
pairs_by_wires w at (suc m) (suc zero) bs e l = absurd (omega arith)
pairs_by_wires w at (suc m) (suc (suc n)) [] e l = absurd (omega arith)
pairs_by_wires w at (suc m) (suc (suc n)) (a ∷ []) e l = absurd (omega arith)
pairs_by_wires w at (suc m) (suc (suc n)) (a ∷ b ∷ []) e l = absurd (omega arith)
pairs_by_wires w at (suc m) (suc (suc n)) (a ∷ b ∷ c ∷ []) e l = absurd (omega arith)
pairs_by_wires w at (suc m) (suc (suc n)) (a ∷ b ∷ c ∷ d ∷ bs) e l =
    let next : at + 2 + 2 ≡ at + 4 = omega arith in
    ap (λ ps. (at, ltb (256 * a + b) w) ∷ (at + 2, ltb (256 * c + d) w) ∷ pair_bounds w (at + 4) ps) (from_four m a b c d bs)
    ∙ ap (λ ts. (at, ltb (256 * a + b) w) ∷ (at + 2, ltb (256 * c + d) w) ∷ ts) (pairs_by_wires w (at + 4) m n bs (omega arith) (omega arith) ∙ ap (λ i. wire_bounds w i (first_chunks 2 n bs)) (sym next))

first_out : (t : Bool) (at : ℕ) (f : FieldFault) (rest : Result (Unit {0}) FieldFault) → Err f ≡ in_bounds ((at, t) ∷ []) → Err f ≡ cond t rest (Err (Value at))
first_out true at f rest e = absurd (err_ok f tt e)
first_out false at f rest e = e

-- the first number that is out of bounds
pub wire_out : (w at x k : ℕ) (ns : List (List ℕ)) (f : FieldFault) → k < length ns → x ≡ pair_at (get_or ns k []) 0 → Err f ≡ in_bounds ((at, ltb x w) ∷ []) → Err f ≡ in_bounds (wire_bounds w at (drop k ns))
wire_out w at x k ns f h ex e =
    let test : Err f ≡ in_bounds ((at, ltb (pair_at (get_or ns k []) 0) w) ∷ []) = e ∙ ap (λ y. in_bounds ((at, ltb y w) ∷ [])) ex in
    first_out (ltb (pair_at (get_or ns k []) 0) w) at f (in_bounds (wire_bounds w (at + 2) (drop (suc k) ns))) test
    ∙ ap (λ ys. in_bounds (wire_bounds w at ys)) (sym (drop-cons ns k [] h))
