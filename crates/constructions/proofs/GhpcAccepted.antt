-- The GHPC block of every lawful table is accepted.
use Rattle.std.proofs.Common.{suc, true, false, arith}
use Rattle.isolation.specs.Patterns.{share_wire}
use Rattle.block.specs.Blocks.{Table, LawfulTable}
use Rattle.verdict.specs.Rules.{Accepted}
use Rattle.constructions.specs.Ghpc.{mask, decoded, selector, entry, masked, held, product, term, partial, delayed, output_0, ghpc_of}
use Rattle.constructions.proofs.Known.{Judged, judged}
use Rattle.constructions.proofs.GhpcCounts.{wires_ghpc, few_wires, masks_ghpc}
use Rattle.constructions.proofs.GhpcValues.{recombines}
use Rattle.constructions.proofs.GhpcClean.{fine_share, fine_mask, fine_decoded, fine_selector, fine_entry, fine_masked, fine_held, fine_product, fine_term, fine_partial, fine_delayed, fine_output_0, fine_bundle}
use Rattle.constructions.proofs.GhpcWires.{Classes, each_wire}

module _ (t : Table) (l : LawfulTable t) where
  each_probe : Classes t (Judged (ghpc_of t))
  each_probe = record {
    of_share = λ d i h. judged (ghpc_of t) d (share_wire d i) (fine_share t l d i h);
    of_mask = λ c h. judged (ghpc_of t) false (mask t c) (fine_mask t l c h);
    of_decoded = λ i h. judged (ghpc_of t) true (decoded t i) (fine_decoded t l i h);
    of_selector = λ i h. judged (ghpc_of t) true (selector t i) (fine_selector t l i h);
    of_entry = λ c i h b. judged (ghpc_of t) false (entry t c i) (fine_entry t l c i h b);
    of_masked = λ c i h b. judged (ghpc_of t) false (masked t c i) (fine_masked t l c i h b);
    of_held = λ c i h b. judged (ghpc_of t) false (held t c i) (fine_held t l c i h b);
    of_product = λ c i h b. judged (ghpc_of t) true (product t c i) (fine_product t l c i h b);
    of_term = λ c i h b. judged (ghpc_of t) true (term t c i) (fine_term t l c i h b);
    of_partial = λ c j h b. judged (ghpc_of t) true (partial t c (suc j)) (fine_partial t l c (suc j) h (omega arith));
    of_delayed = λ c h. judged (ghpc_of t) false (delayed t c) (fine_delayed t l c h);
    of_output_0 = λ c h. judged (ghpc_of t) false (output_0 t c) (fine_output_0 t l c h);
  }

  pub accepted_ghpc : Accepted (ghpc_of t)
  accepted_ghpc = record {
    sizes = (few_wires t l, omega (arith, masks_ghpc t l, l.few_outputs));
    recombination = recombines t l;
    probes = λ w h. each_wire t (Judged (ghpc_of t)) each_probe w (omega (arith, wires_ghpc t));
    bundles = fine_bundle t l;
  }
