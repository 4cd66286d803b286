-- A block meets all rules if and only if they hold at all its stations.
use Rattle.std.proofs.Common.{ℕ, zero, suc, ◌+◌, ◌<◌, ◌≤◌, Bool, true, false, List, [], ◌∷◌, ◌++◌, map, subst, arith}
use native.Mathlib.Decide.{ℕ_discrete}
use Rattle.std.specs.List.{range_with_len, AllByRecursion}
use Rattle.std.proofs.ByRecursion.{All-append}
use Rattle.netlist.specs.Circuit.{wire_count}
use Rattle.block.specs.Blocks.{Whole}
use Rattle.verdict.specs.Rules.{circuit_of, Accepted}
use Rattle.verdict.specs.Stations.{Observation, on_wire, on_outputs, Station, output, breadth, isolation, Holds, stations_of, observations, stations}

module _ {X : Type 0} (P : X → Type 0) where
  all_counted : (f : ℕ → X) (a n : ℕ) → ((i : ℕ) → a ≤ i → i < a + n → P (f i)) → AllByRecursion P (map f (range_with_len a n))
  all_counted f a zero h = tt
  all_counted f a (suc n) h = (h a (omega arith) (omega arith), all_counted f (a + 1) n (λ i l u. h i (omega arith) (omega arith)))

  counted_all : (f : ℕ → X) (a n : ℕ) → AllByRecursion P (map f (range_with_len a n)) → (i : ℕ) → a ≤ i → i < a + n → P (f i)
  counted_all f a zero h i l u = absurd (omega arith)
  counted_all f a (suc n) h i l u =
      elim (ℕ_discrete a i) [
        | yes e ↦ (let Q : ℕ → Type 0 = λ i. P (f i) in subst Q e h.0)
        | no e ↦ counted_all f (a + 1) n h.1 i (omega arith) (omega arith)
      ]

  all_parts : (xs ys : List X) → AllByRecursion P (xs ++ ys) → AllByRecursion P xs × AllByRecursion P ys
  all_parts [] ys h = (tt, h)
  all_parts (x ∷ xs) ys h = let r = all_parts xs ys h.1 in ((h.0, r.0), r.1)

module _ (P : Station → Type 0) where
  all_ways : (os : List Observation) → AllByRecursion (λ o. P (breadth o) × P (isolation o)) os → AllByRecursion P (stations_of os)
  all_ways [] h = tt
  all_ways (o ∷ os) h = (h.0.0, (h.0.1, all_ways os h.1))

  ways_all : (os : List Observation) → AllByRecursion P (stations_of os) → AllByRecursion (λ o. P (breadth o) × P (isolation o)) os
  ways_all [] h = tt
  ways_all (o ∷ os) h = ((h.0, h.1.0), ways_all os h.1.1)

module _ (b : Whole) where
  abbrev W : ℕ
  W = wire_count (circuit_of b)

  abbrev m : ℕ
  m = b.table.m

  abbrev Both : Observation → Type 0
  Both o = Holds b (breadth o) × Holds b (isolation o)

  pub rules_hold : Accepted b → AllByRecursion (Holds b) (stations b)
  rules_hold h = (
    h.sizes.0,
    (
      h.sizes.1,
      All-append (Holds b) (map output (range_with_len 0 m)) (stations_of (observations b))
          (all_counted (Holds b) output 0 m (λ c _ u. h.recombination c (omega arith)))
          (all_ways (Holds b) (observations b)
          (All-append Both (map on_wire (range_with_len 0 W)) (on_outputs false ∷ on_outputs true ∷ [])
          (all_counted Both on_wire 0 W (λ w _ u. h.probes w (omega arith)))
          (h.bundles false, (h.bundles true, tt)))),
    ),
  )

  pub hold_rules : AllByRecursion (Holds b) (stations b) → Accepted b
  hold_rules h = record {
    sizes = (h.0, h.1.0);
    recombination = λ c l. counted_all (Holds b) output 0 m rest.0 c (omega arith) (omega arith);
    probes = λ w l. counted_all Both on_wire 0 W seen.0 w (omega arith) (omega arith);
    bundles = bundles;
  }
    where
      rest : AllByRecursion (Holds b) (map output (range_with_len 0 m)) × AllByRecursion (Holds b) (stations_of (observations b))
      rest = all_parts (Holds b) (map output (range_with_len 0 m)) (stations_of (observations b)) h.1.1

      seen : AllByRecursion Both (map on_wire (range_with_len 0 W)) × AllByRecursion Both (on_outputs false ∷ on_outputs true ∷ [])
      seen = all_parts Both (map on_wire (range_with_len 0 W)) (on_outputs false ∷ on_outputs true ∷ []) (ways_all (Holds b) (observations b) rest.1)

      bundles : (d : Bool) → Both (on_outputs d)
      bundles false = seen.1.0
      bundles true = seen.1.1.0
