-- A set that is clean in either domain shows of every plain input the same.
use Rattle.std.proofs.Common.{◌≡◌, ℕ, Bool, true, false, List, length, sym, ap, ◌∙◌, subst}
use Rattle.netlist.specs.Circuit.{Circuit, Wires}
use Rattle.isolation.specs.Sums.{sum}
use Rattle.isolation.specs.Patterns.{interleave, shares, xors, count, maskings}
use Rattle.isolation.specs.Theorems.{CleanHidesPlainInputs}
use Rattle.isolation.proofs.Sums.{sum_ext}
use Rattle.isolation.proofs.Shifts.{sum_shift}
use Rattle.isolation.proofs.Xors.{length_xors, xors_back}

-- by the share of domain 1 in the place of that of domain 0
maskings_other : (c : Circuit) (S : Wires) (q x : List Bool) → length x ≡ c.inputs
    → maskings c S x q ≡ sum c.inputs (λ b. count c S (interleave (xors b x) b) q)
maskings_other c S q x h =
    sym (let P : ℕ → Type 0 = λ k. sum k (λ b. f (xors b x)) ≡ sum k f in subst P h (sum_shift x f))
    ∙ sum_ext c.inputs (λ b. f (xors b x)) (λ b. count c S (interleave (xors b x) b) q)
    (λ b hb. ap (λ l. count c S (interleave (xors b x) l) q) (xors_back x b (h ∙ sym hb)))
  where
    f : List Bool → ℕ
    f a = count c S (interleave a (xors x a)) q

pub clean_masked : CleanHidesPlainInputs
clean_masked c S false clean x y q hx hy =
    sum_ext c.inputs (λ a. count c S (shares false a (xors x a)) q) (λ a. count c S (shares false a (xors y a)) q)
    (λ a ha. clean a (xors x a) (xors y a) q ha (length_xors x a c.inputs hx ha) (length_xors y a c.inputs hy ha))
clean_masked c S true clean x y q hx hy =
    maskings_other c S q x hx
    ∙ sum_ext c.inputs (λ b. count c S (shares true b (xors b x)) q) (λ b. count c S (shares true b (xors b y)) q)
    (λ b hb. clean b (xors b x) (xors b y) q hb (length_xors b x c.inputs hb hx) (length_xors b y c.inputs hb hy))
    ∙ sym (maskings_other c S q y hy)
