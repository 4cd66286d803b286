-- One more at the end of a list leaves what stands at the other places.
use Rattle.std.proofs.Common.{◌≡◌, ℕ, List, [], ◌∷◌, ◌++◌, length, get_or, arith}
use Rattle.std.proofs.lemmas.Bool.{cases_lt}
use Rattle.std.proofs.lemmas.Grind.{common_steps}

module _ {A : Type 0} where
  pub get_or_not_end : (vs : List A) (a d : A) (i : ℕ) → ¬ (i ≡ length vs) → get_or (vs ++ (a ∷ [])) i d ≡ get_or vs i d
  get_or_not_end vs a d i h = grind (arith, common_steps, cases_lt i (length vs))
