-- The latency of a block all of whose outputs have the same register count.
use Rattle.std.proofs.Common.{◌≡◌, ℕ, ◌<◌, ◌≤◌, max, Bool, true, false, map, get_or, ap, ◌∙◌, ap₂, arith}
use mathlib.Core.List.{map-append}
use Rattle.netlist.specs.Circuit.{largest, register_counts}
use Rattle.isolation.proofs.RegisterCounts.{largest_append, largest_all}
use Rattle.block.specs.Blocks.{Whole}
use Rattle.verdict.specs.Rules.{circuit_of, in_domain, output_wires, latency}
use Rattle.constructions.specs.Gates.{each}
use Rattle.constructions.proofs.Rows.{length_each, map_each, all_each}

module _ (b : Whole) (k : ℕ) (o : Bool → ℕ → ℕ) (outputs : b.outputs ≡ each k (λ c. (o false c, o true c))) where
  abbrev registers : ℕ → ℕ
  registers w = get_or (register_counts (circuit_of b)) w 0

  pub latency_same : (n : ℕ) → 1 ≤ k → ((d : Bool) (c : ℕ) → c < k → registers (o d c) ≡ n) → latency b ≡ n
  latency_same n some h =
      ap largest (map-append registers (output_wires b false) (output_wires b true))
      ∙ largest_append (map registers (output_wires b false)) (map registers (output_wires b true))
      ∙ ap₂ max (one false) (one true)
      ∙ omega arith
    where
      wires : (d : Bool) → output_wires b d ≡ each k (o d)
      wires false = ap (map (in_domain false)) outputs ∙ map_each k (λ c. (o false c, o true c)) (in_domain false)
      wires true = ap (map (in_domain true)) outputs ∙ map_each k (λ c. (o false c, o true c)) (in_domain true)

      one : (d : Bool) → largest (map registers (output_wires b d)) ≡ n
      one d =
          ap (λ ws. largest (map registers ws)) (wires d) ∙ ap largest (map_each k (o d) registers)
          ∙ largest_all n (each k (λ c. registers (o d c))) (omega (arith, length_each k (λ c. registers (o d c))))
          (all_each (λ r. r ≡ n) k (λ c. registers (o d c)) (h d))
