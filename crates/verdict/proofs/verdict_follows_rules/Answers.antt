use Rattle.std.proofs.Common.{Ok, Err, sym, ap, ◌∙◌}
use Rattle.verdict.specs.Stations.{stations}
use Rattle.verdict.specs.Theorems.{AcceptsByRules, RefusesByRules}
use Rattle.verdict.proofs.Accepting.{accepted_verdict}
use Rattle.verdict.proofs.Judging.{refuses, accepted_all, refused_first}
use Rattle.verdict.proofs.Masks.{told}
use Rattle.verdict.proofs.Rules.{hold_rules}
use Rattle.verdict.proofs.verdict_follows_rules.Goals as goal

by_rules : AcceptsByRules
by_rules b a = (
  (λ e. let h = accepted_all b (stations b) a e in (hold_rules b h.0, h.1)),
  (λ h. accepted_verdict b h.0 ∙ ap Ok (sym h.1)),
)

first : RefusesByRules
first b f = (
  (λ e. refused_first b (stations b) f e),
  (λ h. refuses b (stations b) h.0 h.1 ∙ ap Err (sym h.2)),
)

pub returns : goal.returns
returns c = record { accepts = by_rules; refuses = first; ninth = told }
