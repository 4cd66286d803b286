-- The verdicts that take the most to compute.
use Rattle.std.proofs.Common.{◌≡◌, Err, sym, refl, ◌∙◌}
use Rattle.fault.specs.declared.NetlistFault.TheVariants.{Breadth}
use Rattle.verdict.specs.Verdict.{verdict}
use Rattle.verdict.specs.Examples.{wiring, broad, masked_and, accepted}
use Rattle.verdict.proofs.Quick.{quick, quick_verdict}

broad_quick : quick (wiring broad) ≡ Err (Breadth 88)
broad_quick = refl

and_quick : quick masked_and ≡ accepted 38 1 2
and_quick = refl

pub broad_verdict : verdict (wiring broad) ≡ Err (Breadth 88)
broad_verdict = sym (quick_verdict (wiring broad)) ∙ broad_quick

pub and_verdict : verdict masked_and ≡ accepted 38 1 2
and_verdict = sym (quick_verdict masked_and) ∙ and_quick
