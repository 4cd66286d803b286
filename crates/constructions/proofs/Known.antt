-- A set of wires that is given by a short list is narrow, and clean if each of its wires is still, or restored by one shift of the masks.
use Rattle.std.proofs.Common.{◌≡◌, ℕ, ◌≤◌, Bool, true, false, ◌⊎◌, List, [], ◌∷◌, length, sym, ◌∙◌, subst, inl, inr, le_trans, arith}
use Rattle.std.specs.List.{AllByRecursion}
use Rattle.netlist.specs.Circuit.{Wires, alone, wire_count, mask_count, seen}
use Rattle.isolation.specs.Clean.{Clean}
use Rattle.isolation.proofs.Sets.{among_one, size_among, all_among}
use Rattle.isolation.proofs.Criteria.{Restored, Still, clean_restored, clean_still}
use Rattle.block.specs.Blocks.{Whole}
use Rattle.verdict.specs.Rules.{circuit_of, Narrow}
use Rattle.constructions.specs.Gates.{among}

module _ (b : Whole) (d : Bool) where
  abbrev pub Isolated : Wires → Type 0
  Isolated S = Narrow b S × Clean (circuit_of b) S d

  pub known : (S : Wires) (ws : List ℕ) → S ≡ among ws → length ws ≤ 64 → Clean (circuit_of b) (among ws) d → Isolated S
  known S ws e h clean = subst Isolated (sym e) (le_trans (size_among (wire_count (circuit_of b)) ws) h, clean)

  pub known_still : (S : Wires) (ws : List ℕ) → S ≡ among ws → length ws ≤ 64 → AllByRecursion (Still (circuit_of b) d) ws → Isolated S
  known_still S ws e h still = known S ws e h (clean_still (circuit_of b) d (among ws) (all_among (Still (circuit_of b) d) ws still))

  pub known_alone : (w : ℕ) → seen (circuit_of b) w ≡ alone w → Still (circuit_of b) d w → Isolated (seen (circuit_of b) w)
  known_alone w e still = known_still (seen (circuit_of b) w) (w ∷ []) (e ∙ among_one w) (omega arith) (still, tt)

  pub known_restored : (shift : List Bool → List Bool → List Bool → List Bool) → ((x y z : List Bool) → length (shift x y z) ≡ mask_count (circuit_of b))
      → (S : Wires) (ws : List ℕ) → S ≡ among ws → length ws ≤ 64 → AllByRecursion (Restored (circuit_of b) d shift) ws → Isolated S
  known_restored shift long S ws e h restored =
      known S ws e h (clean_restored (circuit_of b) d shift long (among ws) (all_among (Restored (circuit_of b) d shift) ws restored))

-- what the rule on probes asks of a wire
abbrev pub Judged : Whole → ℕ → Type 0
Judged b w = Narrow b (seen (circuit_of b) w) × (Clean (circuit_of b) (seen (circuit_of b) w) false ⊎ Clean (circuit_of b) (seen (circuit_of b) w) true)

pub judged : (b : Whole) (d : Bool) (w : ℕ) → Isolated b d (seen (circuit_of b) w) → Judged b w
judged b false w h = (h.0, inl h.1)
judged b true w h = (h.0, inr h.1)
