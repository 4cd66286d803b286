-- When a set is clean, wire by wire: the other domain turns no value on it, or a shift of the masks restores each of them.
use Rattle.std.proofs.Common.{◌≡◌, ℕ, ◌<◌, Bool, true, false, List, length, get_or, replicate, sym, ap, ◌∙◌}
use lib.ListN.{length-replicate}
use Rattle.netlist.specs.Circuit.{Circuit, Wires, mask_count, settled}
use Rattle.isolation.specs.Patterns.{shares, share_wire, xors}
use Rattle.isolation.specs.Clean.{Clean}
use Rattle.isolation.proofs.Blind.{length_settled_shares}
use Rattle.isolation.proofs.Patterns.{agree_pattern}
use Rattle.isolation.proofs.Shares.{settled_own_share}
use Rattle.isolation.proofs.Shifts.{clean_by_shift}
use Rattle.isolation.proofs.Xors.{xors_none}

module _ (c : Circuit) (d : Bool) where
  -- the value on wire w, with x in domain d and y in the other
  abbrev pub value : (x y m : List Bool) → ℕ → Bool
  value x y m w = get_or (settled c (shares d x y) m) w false

  -- a wire whose value a shift of the masks restores when the other domain changes
  abbrev pub Restored : (List Bool → List Bool → List Bool → List Bool) → ℕ → Type 0
  Restored shift w = (x y z m : List Bool) → length x ≡ c.inputs → length y ≡ c.inputs → length z ≡ c.inputs → length m ≡ mask_count c
      → value x y m w ≡ value x z (xors m (shift x y z)) w

  -- a wire whose value does not turn on the other domain
  abbrev pub Still : ℕ → Type 0
  Still w = (x y z m : List Bool) → length x ≡ c.inputs → length y ≡ c.inputs → length z ≡ c.inputs → value x y m w ≡ value x z m w

  pub clean_restored : (shift : List Bool → List Bool → List Bool → List Bool) → ((x y z : List Bool) → length (shift x y z) ≡ mask_count c)
      → (S : Wires) → ((w : ℕ) → S w ≡ true → Restored shift w) → Clean c S d
  clean_restored shift long S h =
      clean_by_shift c S d
      (λ x y z hx hy hz. (
        shift x y z,
        (
          long x y z,
          λ m hm.
              agree_pattern S (settled c (shares d x y) m) (settled c (shares d x z) (xors m (shift x y z)))
              (length_settled_shares c d x y m hx hy ∙ sym (length_settled_shares c d x z (xors m (shift x y z)) hx hz))
              (λ w e. h w e x y z m hx hy hz hm),
        ),
      ))

  pub clean_still : (S : Wires) → ((w : ℕ) → S w ≡ true → Still w) → Clean c S d
  clean_still S h =
      clean_restored (λ x y z. replicate (mask_count c) false) (λ x y z. length-replicate (mask_count c) false) S
      (λ w e x y z m hx hy hz hm. h w e x y z m hx hy hz ∙ ap (λ l. value x z l w) (sym (xors_none (mask_count c) m hm)))

  -- the shares of a domain do not turn on the other
  pub still_share : (i : ℕ) → i < c.inputs → Still (share_wire d i)
  still_share i h x y z m hx hy hz = settled_own_share c d x y m hx hy i h ∙ sym (settled_own_share c d x z m hx hz i h)
