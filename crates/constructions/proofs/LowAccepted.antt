-- The GHPC_LL block of every lawful table that asks for at most 8 masks is accepted.
use Rattle.std.proofs.Common.{◌≡◌, suc, ◌*◌, ◌≤◌, true, false, nat_le, arith}
use Rattle.std.proofs.lemmas.Bool.{leb-true}
use Rattle.isolation.specs.Patterns.{share_wire}
use Rattle.block.specs.Blocks.{Table, LawfulTable}
use Rattle.verdict.specs.Rules.{Accepted}
use Rattle.constructions.specs.Gates.{argument_count}
use Rattle.constructions.specs.LowLatency.{mask, decoded, selector, entry, masked, held, product_1, product_0, partial_1, partial_0, output_0, low_latency_of}
use Rattle.constructions.proofs.Known.{Judged, judged}
use Rattle.constructions.proofs.LowCounts.{wires_low_latency, few_wires, masks_low_latency}
use Rattle.constructions.proofs.LowValues.{recombines}
use Rattle.constructions.proofs.LowClean.{fine_share, fine_mask, fine_decoded, fine_selector, fine_entry, fine_masked, fine_held, fine_product_1, fine_product_0, fine_partial_1, fine_partial_0, fine_output_0, fine_bundle}
use Rattle.constructions.proofs.LowWires.{Classes, each_wire}

module _ (t : Table) (l : LawfulTable t) (few : t.m * argument_count t ≤ 8) where
  each_probe : Classes t (Judged (low_latency_of t))
  each_probe = record {
    of_share = λ d i h. judged (low_latency_of t) d (share_wire d i) (fine_share t l d i h);
    of_mask = λ c i h b. judged (low_latency_of t) false (mask t c i) (fine_mask t l c i h b);
    of_decoded = λ i h. judged (low_latency_of t) true (decoded t i) (fine_decoded t l i h);
    of_selector = λ i h. judged (low_latency_of t) true (selector t i) (fine_selector t l i h);
    of_entry = λ c i h b. judged (low_latency_of t) false (entry t c i) (fine_entry t l c i h b);
    of_masked = λ c i h b. judged (low_latency_of t) false (masked t c i) (fine_masked t l c i h b);
    of_held = λ c i h b. judged (low_latency_of t) false (held t c i) (fine_held t l c i h b);
    of_product_1 = λ c i h b. judged (low_latency_of t) true (product_1 t c i) (fine_product_1 t l c i h b);
    of_product_0 = λ c i h b. judged (low_latency_of t) true (product_0 t c i) (fine_product_0 t l c i h b);
    of_partial_1 = λ c j h b. judged (low_latency_of t) true (partial_1 t c (suc j)) (fine_partial_1 t l few c (suc j) h (omega arith));
    of_partial_0 = λ c j h b. judged (low_latency_of t) true (partial_0 t c (suc j)) (fine_partial_0 t l few c (suc j) h (omega arith));
    of_output_0 = λ c h. judged (low_latency_of t) true (output_0 t c) (fine_output_0 t l c h);
  }

  pub accepted_low_latency : Accepted (low_latency_of t)
  accepted_low_latency = record {
    sizes = (few_wires t l few, omega (arith, masks_low_latency t l));
    recombination = recombines t l;
    probes = λ w h. each_wire t (Judged (low_latency_of t)) each_probe w (omega (arith, wires_low_latency t));
    bundles = fine_bundle t l few;
  }

pub accepted_few : (t : Table) → LawfulTable t → nat_le (t.m * argument_count t) 8 ≡ true → Accepted (low_latency_of t)
accepted_few t l served = accepted_low_latency t l (leb-true (t.m * argument_count t) 8 served)
