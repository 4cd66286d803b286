-- Bundle 0 of GHPC_LL: the selected masks, which are spread alike whichever the shares of domain 1 select.
use Rattle.std.proofs.Common.{◌≡◌, ℕ, ◌+◌, ◌*◌, ◌<◌, Bool, false, List, length, get_or, sym, ap, ◌∙◌}
use Rattle.netlist.specs.Circuit.{number, Wires, mask_count, settled}
use Rattle.isolation.specs.Sums.{sum}
use Rattle.isolation.specs.Patterns.{pattern, interleave, one_if, same}
use Rattle.isolation.specs.Clean.{Clean}
use Rattle.isolation.proofs.Sums.{sum_ext}
use Rattle.isolation.proofs.Selected.{selected, sum_selected}
use Rattle.isolation.proofs.Patterns.{agree_pattern}
use Rattle.isolation.proofs.Blind.{length_settled_shares}
use Rattle.isolation.proofs.Sets.{all_among}
use Rattle.block.specs.Blocks.{Table, LawfulTable}
use Rattle.verdict.specs.Rules.{circuit_of}
use Rattle.constructions.specs.Gates.{each, rows, argument_count, among}
use Rattle.constructions.specs.LowLatency.{output_0, low_latency_of}
use Rattle.constructions.proofs.Rows.{get_or_each, get_or_grid, all_each}
use Rattle.constructions.proofs.Numbers.{number_fits}
use Rattle.constructions.proofs.LowCounts.{masks_low_latency}
use Rattle.constructions.proofs.LowValues.{settles}

module _ (t : Table) (l : LawfulTable t) where
  abbrev outputs_0 : Wires
  outputs_0 = among (each t.m (output_0 t))

  pub clean_outputs_0 : Clean (circuit_of (low_latency_of t)) outputs_0 false
  clean_outputs_0 x y z q hx hy hz =
      weighed y hy
      ∙ sum_selected t.m (argument_count t) (number y) (number z) weight (number_fits t.n y hy) (number_fits t.n z hz)
      ∙ sym (weighed z hz)
    where
      -- the pattern as it would be if each mask of an output were its selected one
      all_masks : List Bool → List Bool
      all_masks p = rows t.m (λ c. each (argument_count t) (λ i. get_or p c false))

      ideal : List Bool → List Bool
      ideal p = pattern outputs_0 (settled (circuit_of (low_latency_of t)) (interleave x z) (all_masks p))

      weight : List Bool → ℕ
      weight p = one_if (same (ideal p) q)

      alike : (u : List Bool) → length u ≡ t.n → (masks : List Bool) (c : ℕ) → c < t.m
          → get_or (settled (circuit_of (low_latency_of t)) (interleave x u) masks) (output_0 t c) false
          ≡ get_or (settled (circuit_of (low_latency_of t)) (interleave x z) (all_masks (selected t.m (argument_count t) (number u) masks))) (output_0 t c) false
      alike u hu masks c h =
          let p = selected t.m (argument_count t) (number u) masks in
          (settles t l x u masks hx hu).at_output_0 c h
          ∙ sym
          ((settles t l x z (all_masks p) hx hz).at_output_0 c h
          ∙ get_or_grid t.m (argument_count t) (λ c i. get_or p c false) false c (number z) h (number_fits t.n z hz)
          ∙ get_or_each t.m (λ c. get_or masks (c * argument_count t + number u) false) c false h)

      through : (u : List Bool) → length u ≡ t.n → (masks : List Bool)
          → pattern outputs_0 (settled (circuit_of (low_latency_of t)) (interleave x u) masks) ≡ ideal (selected t.m (argument_count t) (number u) masks)
      through u hu masks =
          let here = settled (circuit_of (low_latency_of t)) (interleave x u) masks in
          let there = settled (circuit_of (low_latency_of t)) (interleave x z) (all_masks (selected t.m (argument_count t) (number u) masks)) in
          agree_pattern outputs_0 here there
          (length_settled_shares (circuit_of (low_latency_of t)) false x u masks hx hu
          ∙ sym (length_settled_shares (circuit_of (low_latency_of t)) false x z (all_masks (selected t.m (argument_count t) (number u) masks)) hx hz))
          (all_among (λ w. get_or here w false ≡ get_or there w false) (each t.m (output_0 t))
          (all_each (λ w. get_or here w false ≡ get_or there w false) t.m (output_0 t) (alike u hu masks)))

      arises : List Bool → List Bool → ℕ
      arises u masks = one_if (same (pattern outputs_0 (settled (circuit_of (low_latency_of t)) (interleave x u) masks)) q)

      weighed : (u : List Bool) → length u ≡ t.n
          → sum (mask_count (circuit_of (low_latency_of t))) (arises u) ≡ sum (t.m * argument_count t) (λ masks. weight (selected t.m (argument_count t) (number u) masks))
      weighed u hu =
          ap (λ k. sum k (arises u)) (masks_low_latency t l)
          ∙ sum_ext (t.m * argument_count t) (arises u) (λ masks. weight (selected t.m (argument_count t) (number u) masks)) (λ masks e. ap (λ p. one_if (same p q)) (through u hu masks))
