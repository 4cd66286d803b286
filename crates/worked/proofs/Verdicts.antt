-- The claims that take the most to compute: verdicts with each setting settled once, and a test of a bundle that fails.
use Rattle.std.proofs.Common.{◌≡◌, Bool, true, false, Ok, Err, sym, refl, ◌∙◌}
use Rattle.std.proofs.lemmas.Bool.{true≢false}
use Rattle.fault.specs.declared.NetlistFault.TheVariants.{Breadth}
use Rattle.isolation.specs.Tests.{tests_clean}
use Rattle.isolation.proofs.Tests.{clean_test}
use Rattle.block.specs.Blocks.{Whole}
use Rattle.verdict.specs.Rules.{circuit_of, bundle}
use Rattle.verdict.proofs.Quick.{quick, quick_verdict}
use Rattle.constructions.specs.Ghpc.{ghpc_of}
use Rattle.constructions.specs.LowLatency.{low_latency_of}
use Rattle.worked.specs.Blocks.{joined_registers, and_table, one_mask, unregistered}
use Rattle.worked.specs.Examples.{Holds, accepted, refused, leaks}

broad_quick : quick (joined_registers 65) ≡ Err (Breadth 130)
broad_quick = refl

pub broad_verdict : Holds (joined_registers 65, refused (Breadth 130))
broad_verdict = sym (quick_verdict (joined_registers 65)) ∙ broad_quick

full_quick : quick (joined_registers 64) ≡ Ok (record { wires = 129; masks = 0; latency = 0 })
full_quick = refl

pub full_verdict : Holds (joined_registers 64, accepted 129 0 0)
full_verdict = sym (quick_verdict (joined_registers 64)) ∙ full_quick

and_quick : quick (ghpc_of and_table) ≡ Ok (record { wires = 38; masks = 1; latency = 2 })
and_quick = refl

pub and_verdict : Holds (ghpc_of and_table, accepted 38 1 2)
and_verdict = sym (quick_verdict (ghpc_of and_table)) ∙ and_quick

low_quick : quick (low_latency_of and_table) ≡ Ok (record { wires = 43; masks = 4; latency = 1 })
low_quick = refl

pub low_verdict : Holds (low_latency_of and_table, accepted 43 4 1)
low_verdict = sym (quick_verdict (low_latency_of and_table)) ∙ low_quick

-- a bundle whose test fails is not clean
leaking : (b : Whole) (d : Bool) → tests_clean (circuit_of b) (bundle b d) d ≡ false → Holds (b, leaks d)
leaking b d e h = true≢false (sym (clean_test (circuit_of b) (bundle b d) d h) ∙ e)

one_mask_fails : tests_clean (circuit_of one_mask) (bundle one_mask true) true ≡ false
one_mask_fails = refl

pub one_mask_leaks : Holds (one_mask, leaks true)
one_mask_leaks = leaking one_mask true one_mask_fails

unregistered_fails : tests_clean (circuit_of unregistered) (bundle unregistered true) true ≡ false
unregistered_fails = refl

pub unregistered_leaks : Holds (unregistered, leaks true)
unregistered_leaks = leaking unregistered true unregistered_fails
