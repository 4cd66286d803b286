-- The verdict on a list of stations: accepted if the rules hold at all, and else the fault of the first at which they do not.
use Rattle.std.proofs.Common.{◌≡◌, true, false, ◌⊎◌, List, [], ◌∷◌, ◌++◌, Ok, Err, refl, ap, ◌∙◌, inl, inr, arith}
use Rattle.std.specs.List.{AllByRecursion}
use Rattle.std.proofs.lemmas.Bool.{both_ways, cond-true, cond-false, cases_Bool}
use Rattle.fault.specs.declared.NetlistFault.{NetlistFault}
use Rattle.block.specs.Blocks.{Whole}
use Rattle.verdict.specs.declared.Acceptance.{Acceptance}
use Rattle.verdict.specs.Stations.{Station, Holds, fault_at, FirstFailing}
use Rattle.verdict.specs.Verdict.{passes, acceptance, judged}
use Rattle.verdict.proofs.Passing.{passes_holds, holds_passes}

module _ (b : Whole) where
  pub accepts : (ss : List Station) → AllByRecursion (Holds b) ss → judged b ss ≡ Ok (acceptance b)
  accepts [] h = refl
  accepts (s ∷ ss) h = cond-true (passes b s) (judged b ss) (Err (fault_at b s)) (holds_passes b s h.0) ∙ accepts ss h.1

  refuses_after : (before after : List Station) (s : Station) → AllByRecursion (Holds b) before → (Holds b s → ⊥)
      → judged b (before ++ (s ∷ after)) ≡ Err (fault_at b s)
  refuses_after [] after s h n =
      elim (cases_Bool (passes b s)) [
        | inl e ↦ absurd (n (passes_holds b s e))
        | inr e ↦ cond-false (passes b s) (judged b after) (Err (fault_at b s)) e
      ]
  refuses_after (t ∷ before) after s h n =
      cond-true (passes b t) (judged b (before ++ (s ∷ after))) (Err (fault_at b t)) (holds_passes b t h.0) ∙ refuses_after before after s h.1 n

  pub refuses : (ss : List Station) (s : Station) → FirstFailing b ss s → judged b ss ≡ Err (fault_at b s)
  refuses ss s (before, after, e, h, n) = ap (judged b) e ∙ refuses_after before after s h n

  -- the rules hold at all stations of a list, or there is a first at which they do not
  pub all_or_first : (ss : List Station) → AllByRecursion (Holds b) ss ⊎ ((s : Station) × FirstFailing b ss s)
  all_or_first [] = inl tt
  all_or_first (s ∷ ss) = case (cases_Bool (passes b s)) (all_or_first ss)
    where
      case : (passes b s ≡ true) ⊎ (passes b s ≡ false) → AllByRecursion (Holds b) ss ⊎ ((t : Station) × FirstFailing b ss t)
          → AllByRecursion (Holds b) (s ∷ ss) ⊎ ((t : Station) × FirstFailing b (s ∷ ss) t)
      case (inr e) r = inr (s, ([], ss, refl, tt, λ h. both_ways (passes b s) e (holds_passes b s h)))
      case (inl e) (inl h) = inl (passes_holds b s e, h)
      case (inl e) (inr (t, (before, after, p, h, n))) = inr (t, (s ∷ before, after, ap (λ l. s ∷ l) p, (passes_holds b s e, h), n))

  pub accepted_all : (ss : List Station) (a : Acceptance) → judged b ss ≡ Ok a → AllByRecursion (Holds b) ss × (a ≡ acceptance b)
  accepted_all ss a e =
      elim (all_or_first ss) [
        | inl h ↦ (h, grind (arith, accepts ss h))
        | inr (s, f) ↦ absurd (grind (arith, refuses ss s f))
      ]

  pub refused_first : (ss : List Station) (f : NetlistFault) → judged b ss ≡ Err f → (s : Station) × FirstFailing b ss s × (f ≡ fault_at b s)
  refused_first ss f e =
      elim (all_or_first ss) [
        | inl h ↦ absurd (grind (arith, accepts ss h))
        | inr (s, p) ↦ (s, p, grind (arith, refuses ss s p))
      ]
