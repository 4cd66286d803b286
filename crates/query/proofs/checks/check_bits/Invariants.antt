use Rattle.std.proofs.Common.{◌≡◌, drop}
use Rattle.query.specs.Answers.{bits_answer}
use Rattle.query.proofs.checks.check_bits.Given as goal

abbrev pub invariant-loop-i : goal.invariant-loop-i
invariant-loop-i l = bits_answer 0 l.given ≡ bits_answer l.i (drop l.i l.given)
