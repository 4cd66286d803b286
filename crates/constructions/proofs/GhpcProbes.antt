-- What a probe on each wire of GHPC sees.
use Rattle.std.proofs.Common.{◌≡◌, ℕ, zero, suc, pred, ◌*◌, ◌<◌, true, false, [], ◌∷◌, ◌++◌, map, length, sym, ap, ◌∙◌, ap₂, arith}
use Rattle.netlist.specs.Circuit.{Wires, alone, alone_from, union, probes, seen}
use Rattle.isolation.proofs.Determined.{length_alone_from}
use Rattle.isolation.proofs.Sets.{among_one, union_two}
use Rattle.block.specs.Blocks.{Table, LawfulTable}
use Rattle.verdict.specs.Rules.{circuit_of, in_domain, bundle}
use Rattle.constructions.specs.Gates.{each, rows, argument_count, domain_shares, among}
use Rattle.constructions.specs.Ghpc.{mask, decoded, selector, entry, masked, held, product, term, partial, delayed, output_0, output_1, outputs_of, ghpc_of}
use Rattle.constructions.specs.GhpcForms.{Sees}
use Rattle.constructions.proofs.Numbers.{some_arguments}
use Rattle.constructions.proofs.Rows.{each_last, map_each}
use Rattle.constructions.proofs.Sets.{union_alone, union_rows}
use Rattle.constructions.proofs.Inputs.{seen_shares}
use Rattle.constructions.proofs.GhpcEquations.{on_mask, on_decoded, on_selector, on_entry, on_masked, on_held, on_product, on_term, on_partial, on_delayed, on_output_0}

module _ (t : Table) (l : LawfulTable t) where
  abbrev sees : ℕ → Wires
  sees = seen (circuit_of (ghpc_of t))

  long : length (alone_from 0 (2 * t.n)) ≡ 2 * t.n
  long = length_alone_from 0 (2 * t.n)

  seen_mask : (c : ℕ) → c < t.m → sees (mask t c) ≡ alone (mask t c)
  seen_mask c h = on_mask t l probes (alone_from 0 (2 * t.n)) long c h

  seen_decoded : (i : ℕ) → i < argument_count t → sees (decoded t i) ≡ among (domain_shares t true)
  seen_decoded i h = on_decoded t l probes (alone_from 0 (2 * t.n)) long i h ∙ seen_shares (ghpc_of t) true

  seen_selector : (i : ℕ) → i < argument_count t → sees (selector t i) ≡ alone (selector t i)
  seen_selector i h = on_selector t l probes (alone_from 0 (2 * t.n)) long i h

  module _ (c : ℕ) (h : c < t.m) where
    seen_entry : (i : ℕ) → i < argument_count t → sees (entry t c i) ≡ among (domain_shares t false)
    seen_entry i b = on_entry t l probes (alone_from 0 (2 * t.n)) long c h i b ∙ seen_shares (ghpc_of t) false

    seen_masked : (i : ℕ) → i < argument_count t → sees (masked t c i) ≡ among (domain_shares t false ++ (mask t c ∷ []))
    seen_masked i b =
        on_masked t l probes (alone_from 0 (2 * t.n)) long c h i b
        ∙ ap₂ (λ s u. union (s ∷ u ∷ [])) (seen_entry i b) (seen_mask c h ∙ among_one (mask t c))
        ∙ union_two (domain_shares t false) (mask t c ∷ [])

    seen_held : (i : ℕ) → i < argument_count t → sees (held t c i) ≡ alone (held t c i)
    seen_held i b = on_held t l probes (alone_from 0 (2 * t.n)) long c h i b

    seen_product : (i : ℕ) → i < argument_count t → sees (product t c i) ≡ among (selector t i ∷ held t c i ∷ [])
    seen_product i b =
        on_product t l probes (alone_from 0 (2 * t.n)) long c h i b
        ∙ ap₂ (λ s u. union (s ∷ u ∷ [])) (seen_selector i b) (seen_held i b)

    seen_term : (i : ℕ) → i < argument_count t → sees (term t c i) ≡ alone (term t c i)
    seen_term i b = on_term t l probes (alone_from 0 (2 * t.n)) long c h i b

    seen_partial : (j : ℕ) → j < argument_count t → sees (partial t c j) ≡ among (each (suc j) (term t c))
    seen_partial zero b = seen_term 0 b ∙ among_one (term t c 0)
    seen_partial (suc j) b =
        on_partial t l probes (alone_from 0 (2 * t.n)) long c h j (omega arith)
        ∙ ap₂ (λ s u. union (s ∷ u ∷ [])) (seen_partial j (omega arith)) (seen_term (suc j) b ∙ among_one (term t c (suc j)))
        ∙ union_two (each (suc j) (term t c)) (term t c (suc j) ∷ [])
        ∙ ap among (sym (each_last (suc j) (term t c)))

    seen_delayed : sees (delayed t c) ≡ alone (delayed t c)
    seen_delayed = on_delayed t l probes (alone_from 0 (2 * t.n)) long c h

    seen_output_0 : sees (output_0 t c) ≡ alone (output_0 t c)
    seen_output_0 = on_output_0 t l probes (alone_from 0 (2 * t.n)) long c h

    seen_output_1 : sees (output_1 t c) ≡ among (each (argument_count t) (term t c))
    seen_output_1 =
        let z : suc (pred (argument_count t)) ≡ argument_count t = omega (arith, some_arguments t) in
        seen_partial (pred (argument_count t)) (omega (arith, some_arguments t)) ∙ ap (λ k. among (each k (term t c))) z

  bundle_0 : bundle (ghpc_of t) false ≡ among (each t.m (output_0 t))
  bundle_0 =
      ap (λ ws. union (map sees ws)) (map_each t.m (outputs_of t) (in_domain false))
      ∙ union_alone sees t.m (output_0 t) seen_output_0

  bundle_1 : bundle (ghpc_of t) true ≡ among (rows t.m (λ c. each (argument_count t) (term t c)))
  bundle_1 =
      ap (λ ws. union (map sees ws)) (map_each t.m (outputs_of t) (in_domain true))
      ∙ union_rows sees t.m (output_1 t) (λ c. each (argument_count t) (term t c)) seen_output_1

  pub probes_see : Sees t
  probes_see = record {
    from_mask = seen_mask;
    from_decoded = seen_decoded;
    from_selector = seen_selector;
    from_entry = λ c i h. seen_entry c h i;
    from_masked = λ c i h. seen_masked c h i;
    from_held = λ c i h. seen_held c h i;
    from_product = λ c i h. seen_product c h i;
    from_term = λ c i h. seen_term c h i;
    from_partial = λ c j h. seen_partial c h j;
    from_delayed = seen_delayed;
    from_output_0 = seen_output_0;
    from_output_1 = seen_output_1;
    from_outputs_0 = bundle_0;
    from_outputs_1 = bundle_1;
  }
