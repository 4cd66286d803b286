use Rattle.std.proofs.Common.{refl}
use Rattle.verdict.specs.Examples.{VerdictsAsListed}
use Rattle.verdict.proofs.Examples.{broad_verdict, and_verdict}
use Rattle.verdict.proofs.worked_examples.Goals as goal

verdicts : VerdictsAsListed
verdicts = (refl, (refl, (refl, (refl, (refl, (refl, (broad_verdict, (and_verdict, tt))))))))

pub returns : goal.returns
returns c = record { number = refl; verdicts = verdicts }
