-- Clean by counts, and by weights: whatever is worked out from the values on a clean set tells nothing of the other domain.
use Rattle.std.proofs.Common.{◌≡◌, ℕ, Bool, true, List, length, sym, ap, ◌∙◌, subst}
use Rattle.netlist.specs.Circuit.{Circuit, Wires, wire_count, mask_count, settled}
use Rattle.isolation.specs.Agreeing.{Agree}
use Rattle.isolation.specs.Sums.{sum}
use Rattle.isolation.specs.Patterns.{pattern, one_if, same, shares, size}
use Rattle.isolation.specs.Clean.{Clean}
use Rattle.isolation.specs.Theorems.{CleanWeighsEqually, SubsetIsClean, WorkedOutIsClean}
use Rattle.isolation.proofs.Sums.{sum_ext}
use Rattle.isolation.proofs.Weights.{equal_counts_weigh}
use Rattle.isolation.proofs.Shares.{length_shares}
use Rattle.isolation.proofs.Carries.{length_settled}
use Rattle.isolation.proofs.Patterns.{length_pattern, agree_pattern, put, length_put, put_agrees}

pub length_settled_shares : (c : Circuit) (d : Bool) (x y m : List Bool) → length x ≡ c.inputs → length y ≡ c.inputs
    → length (settled c (shares d x y) m) ≡ wire_count c
length_settled_shares c d x y m hx hy = length_settled c (shares d x y) m (length_shares d x y c.inputs hx hy)

-- every weighing of the patterns on a clean set comes to the same sum
pub clean_weighs : CleanWeighsEqually
clean_weighs c S d clean F x y z hx hy hz =
    equal_counts_weigh (mask_count c) (size (wire_count c) S) (λ m. pattern S (settled c (shares d x y) m)) (λ m. pattern S (settled c (shares d x z) m))
    (long y hy) (long z hz) (λ q. clean x y z q hx hy hz) F
  where
    long : (y : List Bool) → length y ≡ c.inputs → (m : List Bool) → length m ≡ mask_count c → length (pattern S (settled c (shares d x y) m)) ≡ size (wire_count c) S
    long y h m e = length_pattern S (settled c (shares d x y) m) ∙ ap (λ n. size n S) (length_settled_shares c d x y m hx h)

-- a set whose pattern is worked out from that on a clean set
pub clean_worked_out : WorkedOutIsClean
clean_worked_out c S T d f made clean x y z q hx hy hz =
    flat y hy ∙ clean_weighs c S d clean (λ p. one_if (same (f p) q)) x y z hx hy hz ∙ sym (flat z hz)
  where
    flat : (y : List Bool) → length y ≡ c.inputs
        → sum (mask_count c) (λ m. one_if (same (pattern T (settled c (shares d x y) m)) q)) ≡ sum (mask_count c) (λ m. one_if (same (f (pattern S (settled c (shares d x y) m))) q))
    flat y h =
        sum_ext (mask_count c) (λ m. one_if (same (pattern T (settled c (shares d x y) m)) q)) (λ m. one_if (same (f (pattern S (settled c (shares d x y) m))) q))
        (λ m e. ap (λ p. one_if (same p q)) (made (shares d x y) m (length_shares d x y c.inputs hx h) e))

-- a weight on the values on n wires that looks at the wires of S alone
abbrev pub Looks : ℕ → Wires → (List Bool → ℕ) → Type 0
Looks n S F = (u v : List Bool) → length u ≡ n → length v ≡ n → Agree S u v → F u ≡ F v

abbrev pub Blind : Circuit → Wires → Bool → Type 0
Blind c S d = (F : List Bool → ℕ) → Looks (wire_count c) S F → (x y z : List Bool) → length x ≡ c.inputs → length y ≡ c.inputs → length z ≡ c.inputs
    → sum (mask_count c) (λ m. F (settled c (shares d x y) m)) ≡ sum (mask_count c) (λ m. F (settled c (shares d x z) m))

pub clean_blind : (c : Circuit) (S : Wires) (d : Bool) → Clean c S d → Blind c S d
clean_blind c S d clean F looks x y z hx hy hz = flat y hy ∙ clean_weighs c S d clean weight x y z hx hy hz ∙ sym (flat z hz)
  where
    weight : List Bool → ℕ
    weight q = F (put S (wire_count c) q)

    flat : (y : List Bool) → length y ≡ c.inputs
        → sum (mask_count c) (λ m. F (settled c (shares d x y) m)) ≡ sum (mask_count c) (λ m. weight (pattern S (settled c (shares d x y) m)))
    flat y h =
        sum_ext (mask_count c) (λ m. F (settled c (shares d x y) m)) (λ m. weight (pattern S (settled c (shares d x y) m)))
        (λ m e.
        let v = settled c (shares d x y) m in
        let l = length_settled_shares c d x y m hx h in
        looks v (put S (wire_count c) (pattern S v)) l (length_put S (wire_count c) (pattern S v))
        (let P : ℕ → Type 0 = λ n. Agree S v (put S n (pattern S v)) in subst P l (put_agrees S v)))

pub blind_clean : (c : Circuit) (S : Wires) (d : Bool) → Blind c S d → Clean c S d
blind_clean c S d blind x y z q hx hy hz =
    blind (λ v. one_if (same (pattern S v) q)) (λ u v hu hv a. ap (λ p. one_if (same p q)) (agree_pattern S u v (hu ∙ sym hv) a)) x y z hx hy hz

-- a subset
pub blind_within : (c : Circuit) (S T : Wires) (d : Bool) → ((w : ℕ) → T w ≡ true → S w ≡ true) → Blind c S d → Blind c T d
blind_within c S T d sub blind F looks = blind F (λ u v hu hv a. looks u v hu hv (λ w e. a w (sub w e)))

pub clean_within : SubsetIsClean
clean_within c S T d sub clean = blind_clean c T d (blind_within c S T d sub (clean_blind c S d clean))
