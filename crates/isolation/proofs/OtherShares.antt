-- A set that is clean in one domain holds no input share of the other.
use Rattle.std.proofs.Common.{◌≡◌, ℕ, ◌<◌, Bool, true, false, not, ◌⊎◌, List, length, get_or, replicate, refl, ap, ◌∙◌, inl, inr, arith}
use lib.ListN.{length-replicate, get_or-replicate}
use Rattle.std.proofs.lemmas.Bool.{both_ways}
use Rattle.netlist.specs.Circuit.{Circuit, Wires, share_count, mask_count, settled}
use Rattle.isolation.specs.Sums.{sum}
use Rattle.isolation.specs.Patterns.{one_if, shares, share_wire}
use Rattle.isolation.specs.Theorems.{CleanHoldsNoOtherShare}
use Rattle.isolation.proofs.Sums.{sum_ext, sum_zero, sum_ones}
use Rattle.isolation.proofs.Shares.{settled_other_share, share_of}
use Rattle.isolation.proofs.Blind.{Blind, clean_blind}

pub blind_no_other_share : (c : Circuit) (S : Wires) (d : Bool) → Blind c S d → (i : ℕ) → i < c.inputs → S (share_wire (not d) i) ≡ false
blind_no_other_share c S d blind i h = case (S (share_wire (not d) i)) refl
  where
    n : ℕ
    n = c.inputs

    w : ℕ
    w = share_wire (not d) i

    F : List Bool → ℕ
    F v = one_if (get_or v w false)

    all : Bool → List Bool
    all b = replicate n b

    long : (b : Bool) → length (all b) ≡ n
    long b = length-replicate n b

    -- the sum is that of the share itself
    whole : (b : Bool) → sum (mask_count c) (λ m. F (settled c (shares d (all false) (all b)) m)) ≡ sum (mask_count c) (λ m. one_if b)
    whole b =
        sum_ext (mask_count c) (λ m. F (settled c (shares d (all false) (all b)) m)) (λ m. one_if b)
        (λ m e. ap one_if (settled_other_share c d (all false) (all b) m (long false) (long b) i h ∙ get_or-replicate n i b false h))

    case : (b : Bool) → S w ≡ b → b ≡ false
    case false e = refl
    case true e =
        let same = blind F (λ u v hu hv a. ap one_if (a w e)) (all false) (all false) (all true) (long false) (long false) (long true) in
        let z : ⊥ = omega (arith, whole false, whole true, sum_zero (mask_count c), sum_ones (mask_count c)) in
        absurd z

pub clean_no_other_share : CleanHoldsNoOtherShare
clean_no_other_share c S d clean = blind_no_other_share c S d (clean_blind c S d clean)

-- so every input share in it is one of its own domain
pub blind_own_share : (c : Circuit) (S : Wires) (d : Bool) → Blind c S d → (w : ℕ) → w < share_count c → S w ≡ true → (i : ℕ) × (i < c.inputs) × (w ≡ share_wire d i)
blind_own_share c S d blind w h t =
    let r = share_of w c.inputs h in
    case r.0 r.1 r.2 r.3 (own_or_other d r.0)
  where
    own_or_other : (d e : Bool) → (e ≡ d) ⊎ (e ≡ not d)
    own_or_other true true = inl refl
    own_or_other true false = inr refl
    own_or_other false true = inr refl
    own_or_other false false = inl refl

    case : (e : Bool) (i : ℕ) → i < c.inputs → w ≡ share_wire e i → (e ≡ d) ⊎ (e ≡ not d) → (i : ℕ) × (i < c.inputs) × (w ≡ share_wire d i)
    case e i l p (inl q) = (i, l, p ∙ ap (λ b. share_wire b i) q)
    case e i l p (inr q) = absurd (both_ways (S w) (ap S (p ∙ ap (λ b. share_wire b i) q) ∙ blind_no_other_share c S d blind i l) t)
