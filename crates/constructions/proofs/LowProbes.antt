-- What a probe on each wire of GHPC_LL sees.
use Rattle.std.proofs.Common.{◌≡◌, ℕ, zero, suc, pred, ◌*◌, ◌<◌, true, false, [], ◌∷◌, ◌++◌, map, length, sym, ap, ◌∙◌, ap₂, arith}
use Rattle.netlist.specs.Circuit.{Wires, alone, alone_from, union, probes, seen}
use Rattle.isolation.proofs.Determined.{length_alone_from}
use Rattle.isolation.proofs.Sets.{among_one, union_two}
use Rattle.block.specs.Blocks.{Table, LawfulTable}
use Rattle.verdict.specs.Rules.{circuit_of, in_domain, bundle}
use Rattle.constructions.specs.Gates.{each, rows, argument_count, domain_shares, among}
use Rattle.constructions.specs.LowLatency.{mask, decoded, selector, entry, masked, held, product_1, product_0, partial_1, partial_0, output_0, output_1, outputs_of, low_latency_of}
use Rattle.constructions.specs.LowLatencyForms.{factors_1, factors_0, Sees}
use Rattle.constructions.proofs.Numbers.{some_arguments}
use Rattle.constructions.proofs.Rows.{rows_last, map_each}
use Rattle.constructions.proofs.Sets.{union_alone, union_rows}
use Rattle.constructions.proofs.Inputs.{seen_shares}
use Rattle.constructions.proofs.LowEquations.{on_mask, on_decoded, on_selector, on_entry, on_masked, on_held, on_product_1, on_product_0, on_partial_1, on_partial_0, on_output_0}

module _ (t : Table) (l : LawfulTable t) where
  abbrev sees : ℕ → Wires
  sees = seen (circuit_of (low_latency_of t))

  long : length (alone_from 0 (2 * t.n)) ≡ 2 * t.n
  long = length_alone_from 0 (2 * t.n)

  seen_mask : (c i : ℕ) → c < t.m → i < argument_count t → sees (mask t c i) ≡ alone (mask t c i)
  seen_mask c i h b = on_mask t l probes (alone_from 0 (2 * t.n)) long c i h b

  seen_decoded : (i : ℕ) → i < argument_count t → sees (decoded t i) ≡ among (domain_shares t true)
  seen_decoded i h = on_decoded t l probes (alone_from 0 (2 * t.n)) long i h ∙ seen_shares (low_latency_of t) true

  seen_selector : (i : ℕ) → i < argument_count t → sees (selector t i) ≡ alone (selector t i)
  seen_selector i h = on_selector t l probes (alone_from 0 (2 * t.n)) long i h

  module _ (c : ℕ) (h : c < t.m) where
    seen_entry : (i : ℕ) → i < argument_count t → sees (entry t c i) ≡ among (domain_shares t false)
    seen_entry i b = on_entry t l probes (alone_from 0 (2 * t.n)) long c h i b ∙ seen_shares (low_latency_of t) false

    seen_masked : (i : ℕ) → i < argument_count t → sees (masked t c i) ≡ among (domain_shares t false ++ (mask t c i ∷ []))
    seen_masked i b =
        on_masked t l probes (alone_from 0 (2 * t.n)) long c h i b
        ∙ ap₂ (λ s u. union (s ∷ u ∷ [])) (seen_entry i b) (seen_mask c i h b ∙ among_one (mask t c i))
        ∙ union_two (domain_shares t false) (mask t c i ∷ [])

    seen_held : (i : ℕ) → i < argument_count t → sees (held t c i) ≡ alone (held t c i)
    seen_held i b = on_held t l probes (alone_from 0 (2 * t.n)) long c h i b

    seen_product_1 : (i : ℕ) → i < argument_count t → sees (product_1 t c i) ≡ among (factors_1 t c i)
    seen_product_1 i b =
        on_product_1 t l probes (alone_from 0 (2 * t.n)) long c h i b
        ∙ ap₂ (λ s u. union (s ∷ u ∷ [])) (seen_selector i b) (seen_held i b)

    seen_product_0 : (i : ℕ) → i < argument_count t → sees (product_0 t c i) ≡ among (factors_0 t c i)
    seen_product_0 i b =
        on_product_0 t l probes (alone_from 0 (2 * t.n)) long c h i b
        ∙ ap₂ (λ s u. union (s ∷ u ∷ [])) (seen_decoded i b) (seen_mask c i h b ∙ among_one (mask t c i))
        ∙ union_two (domain_shares t true) (mask t c i ∷ [])

    seen_partial_1 : (j : ℕ) → j < argument_count t → sees (partial_1 t c j) ≡ among (rows (suc j) (factors_1 t c))
    seen_partial_1 zero b = seen_product_1 0 b ∙ ap among (sym (rows_last 0 (factors_1 t c)))
    seen_partial_1 (suc j) b =
        on_partial_1 t l probes (alone_from 0 (2 * t.n)) long c h j (omega arith)
        ∙ ap₂ (λ s u. union (s ∷ u ∷ [])) (seen_partial_1 j (omega arith)) (seen_product_1 (suc j) b)
        ∙ union_two (rows (suc j) (factors_1 t c)) (factors_1 t c (suc j))
        ∙ ap among (sym (rows_last (suc j) (factors_1 t c)))

    seen_partial_0 : (j : ℕ) → j < argument_count t → sees (partial_0 t c j) ≡ among (rows (suc j) (factors_0 t c))
    seen_partial_0 zero b = seen_product_0 0 b ∙ ap among (sym (rows_last 0 (factors_0 t c)))
    seen_partial_0 (suc j) b =
        on_partial_0 t l probes (alone_from 0 (2 * t.n)) long c h j (omega arith)
        ∙ ap₂ (λ s u. union (s ∷ u ∷ [])) (seen_partial_0 j (omega arith)) (seen_product_0 (suc j) b)
        ∙ union_two (rows (suc j) (factors_0 t c)) (factors_0 t c (suc j))
        ∙ ap among (sym (rows_last (suc j) (factors_0 t c)))

    seen_output_0 : sees (output_0 t c) ≡ alone (output_0 t c)
    seen_output_0 = on_output_0 t l probes (alone_from 0 (2 * t.n)) long c h

    seen_output_1 : sees (output_1 t c) ≡ among (rows (argument_count t) (factors_1 t c))
    seen_output_1 =
        let z : suc (pred (argument_count t)) ≡ argument_count t = omega (arith, some_arguments t) in
        seen_partial_1 (pred (argument_count t)) (omega (arith, some_arguments t)) ∙ ap (λ k. among (rows k (factors_1 t c))) z

  bundle_0 : bundle (low_latency_of t) false ≡ among (each t.m (output_0 t))
  bundle_0 =
      ap (λ ws. union (map sees ws)) (map_each t.m (outputs_of t) (in_domain false))
      ∙ union_alone sees t.m (output_0 t) seen_output_0

  bundle_1 : bundle (low_latency_of t) true ≡ among (rows t.m (λ c. rows (argument_count t) (factors_1 t c)))
  bundle_1 =
      ap (λ ws. union (map sees ws)) (map_each t.m (outputs_of t) (in_domain true))
      ∙ union_rows sees t.m (output_1 t) (λ c. rows (argument_count t) (factors_1 t c)) seen_output_1

  pub probes_see : Sees t
  probes_see = record {
    from_mask = seen_mask;
    from_decoded = seen_decoded;
    from_selector = seen_selector;
    from_entry = λ c i h. seen_entry c h i;
    from_masked = λ c i h. seen_masked c h i;
    from_held = λ c i h. seen_held c h i;
    from_product_1 = λ c i h. seen_product_1 c h i;
    from_product_0 = λ c i h. seen_product_0 c h i;
    from_partial_1 = λ c j h. seen_partial_1 c h j;
    from_partial_0 = λ c j h. seen_partial_0 c h j;
    from_output_0 = seen_output_0;
    from_output_1 = seen_output_1;
    from_outputs_0 = bundle_0;
    from_outputs_1 = bundle_1;
  }
