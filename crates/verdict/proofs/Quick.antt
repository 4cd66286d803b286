-- The same verdict with every setting of shares and masks settled once.
use Rattle.std.proofs.Common.{◌≡◌, ℕ, Bool, true, false, cond, ◌&&◌, ◌||◌, eqb, List, [], ◌∷◌, replicate, Ok, Err, Result, refl, ap, ◌∙◌}
use Rattle.fault.specs.declared.NetlistFault.{NetlistFault}
use Rattle.netlist.specs.Circuit.{Circuit, Wires, mask_count, settled, seen}
use Rattle.isolation.specs.Patterns.{pattern, one_if, same, shares, count}
use Rattle.isolation.specs.Tests.{every, covered, tests_clean}
use Rattle.block.specs.Blocks.{Whole}
use Rattle.verdict.specs.declared.Acceptance.{Acceptance}
use Rattle.verdict.specs.Rules.{circuit_of, bundle}
use Rattle.verdict.specs.Stations.{on_wire, on_outputs, Station, wires, masks, output, breadth, isolation, fault_at, stations}
use Rattle.verdict.specs.Verdict.{passes, acceptance, judged, verdict}
use Rattle.verdict.proofs.Trees.{Tree, grown, all, total, first, mapped, grown_same, all_grown, total_grown, first_grown, mapped_grown, every_same}

-- patterns, or settlings, by the masks
abbrev Row : Type 0
Row = Tree (List Bool)

-- by the shares of one domain, those of the other, and the masks
abbrev Settlings : Type 0
Settlings = Tree (Tree Row)

abbrev settlings : Circuit → Bool → Settlings
settlings c d = grown c.inputs (λ x. grown c.inputs (λ y. grown (mask_count c) (λ m. settled c (shares d x y) m)))

abbrev tally : Row → List Bool → ℕ
tally t q = total (λ p. one_if (same p q)) t

abbrev covers : Row → Row → Bool
covers s t = all (λ q. eqb (tally s q) (tally t q)) s

abbrev all_as : Tree Row → Row → Bool
all_as ps z = all (λ p. covers p z && covers z p) ps

abbrev all_alike : Tree Row → Bool
all_alike ps = all_as ps (first ps)

abbrev alike : Wires → Settlings → Bool
alike S = all (λ t. all_alike (mapped (mapped (pattern S)) t))

module _ (c : Circuit) (S : Wires) (d : Bool) where
  abbrev n : ℕ
  n = c.inputs

  abbrev k : ℕ
  k = mask_count c

  abbrev at : List Bool → List Bool → List Bool
  at u m = pattern S (settled c u m)

  tally_count : (u q : List Bool) → tally (grown k (at u)) q ≡ count c S u q
  tally_count u q = total_grown (λ p. one_if (same p q)) k (at u)

  covers_covered : (u v : List Bool) → covers (grown k (at u)) (grown k (at v)) ≡ covered c S u v
  covers_covered u v =
      all_grown (λ q. eqb (tally (grown k (at u)) q) (tally (grown k (at v)) q)) k (at u)
      ∙ every_same k (λ m. eqb (tally (grown k (at u)) (at u m)) (tally (grown k (at v)) (at u m)))
      (λ m. eqb (count c S u (at u m)) (count c S v (at u m)))
      (λ m. let p = tally_count u (at u m) in let q = tally_count v (at u m) in cc)

  abbrev zeros : List Bool
  zeros = replicate n false

  abbrev row : List Bool → List Bool → Row
  row x y = grown k (at (shares d x y))

  patterns : (x : List Bool) → mapped (mapped (pattern S)) (grown n (λ y. grown k (λ m. settled c (shares d x y) m))) ≡ grown n (row x)
  patterns x =
      mapped_grown (mapped (pattern S)) n (λ y. grown k (λ m. settled c (shares d x y) m))
      ∙ grown_same n (λ y. mapped (pattern S) (grown k (λ m. settled c (shares d x y) m))) (row x)
      (λ y. mapped_grown (pattern S) k (λ m. settled c (shares d x y) m))

  abbrev both : List Bool → List Bool → Bool
  both x y = covered c S (shares d x y) (shares d x zeros) && covered c S (shares d x zeros) (shares d x y)

  alike_both : (x : List Bool) → all_alike (grown n (row x)) ≡ every n (both x)
  alike_both x =
      ap (all_as (grown n (row x))) (first_grown n (row x))
      ∙ all_grown (λ p. covers p (row x zeros) && covers (row x zeros) p) n (row x)
      ∙ every_same n (λ y. covers (row x y) (row x zeros) && covers (row x zeros) (row x y)) (both x)
      (λ y. let p = covers_covered (shares d x y) (shares d x zeros) in let q = covers_covered (shares d x zeros) (shares d x y) in cc)

  alike_clean : alike S (settlings c d) ≡ tests_clean c S d
  alike_clean =
      all_grown (λ t. all_alike (mapped (mapped (pattern S)) t)) n (λ x. grown n (λ y. grown k (λ m. settled c (shares d x y) m)))
      ∙ every_same n (λ x. all_alike (mapped (mapped (pattern S)) (grown n (λ y. grown k (λ m. settled c (shares d x y) m)))))
      (λ x. every n (both x)) (λ x. ap all_alike (patterns x) ∙ alike_both x)

-- the tests with the settlings for domain 0 and for domain 1 given
abbrev for_domain : Bool → Settlings → Settlings → Settlings
for_domain false t0 t1 = t0
for_domain true t0 t1 = t1

abbrev passes_by : Whole → Settlings → Settlings → Station → Bool
passes_by b t0 t1 wires = passes b wires
passes_by b t0 t1 masks = passes b masks
passes_by b t0 t1 (output c) = passes b (output c)
passes_by b t0 t1 (breadth o) = passes b (breadth o)
passes_by b t0 t1 (isolation (on_wire w)) = alike (seen (circuit_of b) w) t0 || alike (seen (circuit_of b) w) t1
passes_by b t0 t1 (isolation (on_outputs d)) = alike (bundle b d) (for_domain d t0 t1)

abbrev judged_by : Whole → Settlings → Settlings → List Station → Result Acceptance NetlistFault
judged_by b t0 t1 [] = Ok (acceptance b)
judged_by b t0 t1 (s ∷ ss) = cond (passes_by b t0 t1 s) (judged_by b t0 t1 ss) (Err (fault_at b s))

abbrev pub quick : Whole → Result Acceptance NetlistFault
quick b = judged_by b (settlings (circuit_of b) false) (settlings (circuit_of b) true) (stations b)

module _ (b : Whole) where
  abbrev t0 : Settlings
  t0 = settlings (circuit_of b) false

  abbrev t1 : Settlings
  t1 = settlings (circuit_of b) true

  passes_same : (s : Station) → passes_by b t0 t1 s ≡ passes b s
  passes_same wires = refl
  passes_same masks = refl
  passes_same (output c) = refl
  passes_same (breadth o) = refl
  passes_same (isolation (on_wire w)) =
      let p = alike_clean (circuit_of b) (seen (circuit_of b) w) false in let q = alike_clean (circuit_of b) (seen (circuit_of b) w) true in cc
  passes_same (isolation (on_outputs false)) = alike_clean (circuit_of b) (bundle b false) false
  passes_same (isolation (on_outputs true)) = alike_clean (circuit_of b) (bundle b true) true

  judged_same : (ss : List Station) → judged_by b t0 t1 ss ≡ judged b ss
  judged_same [] = refl
  judged_same (s ∷ ss) = let p = passes_same s in let q = judged_same ss in cc

  pub quick_verdict : quick b ≡ verdict b
  quick_verdict = judged_same (stations b)
