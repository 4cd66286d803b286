-- The test at each station says just what the rules ask there.
use Rattle.std.proofs.Common.{◌≡◌, ℕ, Bool, true, false, List, sym, refl, inl, inr}
use mathlib.Core.Bool.{beq}
use Rattle.std.proofs.lemmas.Bool.{leb-true, le-leb, or_cases, or_left, or_right}
use Rattle.netlist.specs.Circuit.{wire_count, mask_count, seen, number}
use Rattle.isolation.specs.Patterns.{xor, xors, size}
use Rattle.isolation.specs.Tests.{every, tests_clean}
use Rattle.isolation.proofs.Patterns.{beq_eq}
use Rattle.isolation.proofs.Tests.{every_of, every_from, test_clean, clean_test}
use Rattle.block.specs.Blocks.{Whole, output_at}
use Rattle.verdict.specs.Rules.{circuit_of, output_wire, bundle, settled_at, RecombinesAt}
use Rattle.verdict.specs.Stations.{Observation, on_wire, on_outputs, observed, Isolated, Station, wires, masks, output, breadth, isolation, Holds}
use Rattle.verdict.specs.Verdict.{recombines, isolated, passes}

pub eq_beq : (s t : Bool) → s ≡ t → beq s t ≡ true
eq_beq true true h = refl
eq_beq true false h = sym h
eq_beq false true h = h
eq_beq false false h = refl

module _ (b : Whole) where
  abbrev n : ℕ
  n = b.table.n

  abbrev k : ℕ
  k = mask_count (circuit_of b)

  abbrev got : ℕ → List Bool → List Bool → List Bool → Bool
  got c x y m = xor (settled_at b x y m (output_wire b false c)) (settled_at b x y m (output_wire b true c))

  abbrev due : ℕ → List Bool → List Bool → Bool
  due c x y = output_at b.table c (number (xors x y))

  abbrev fits : ℕ → List Bool → List Bool → List Bool → Bool
  fits c x y m = beq (got c x y m) (due c x y)

  test_recombines : (c : ℕ) → recombines b c ≡ true → RecombinesAt b c
  test_recombines c h x y m hx hy hm =
      let at_x = every_of n (λ x. every n (λ y. every k (fits c x y))) h x hx in
      let at_y = every_of n (λ y. every k (fits c x y)) at_x y hy in
      beq_eq (got c x y m) (due c x y) (every_of k (fits c x y) at_y m hm)

  recombines_test : (c : ℕ) → RecombinesAt b c → recombines b c ≡ true
  recombines_test c h =
      every_from n (λ x. every n (λ y. every k (fits c x y))) (λ x hx.
      every_from n (λ y. every k (fits c x y)) (λ y hy.
      every_from k (fits c x y) (λ m hm. eq_beq (got c x y m) (due c x y) (h x y m hx hy hm))))

  test_isolated : (o : Observation) → isolated b o ≡ true → Isolated b o
  test_isolated (on_wire w) h =
      elim (or_cases (tests_clean (circuit_of b) (seen (circuit_of b) w) false) (tests_clean (circuit_of b) (seen (circuit_of b) w) true) h) [
        | inl e ↦ inl (test_clean (circuit_of b) (seen (circuit_of b) w) false e)
        | inr e ↦ inr (test_clean (circuit_of b) (seen (circuit_of b) w) true e)
      ]
  test_isolated (on_outputs d) h = test_clean (circuit_of b) (bundle b d) d h

  isolated_test : (o : Observation) → Isolated b o → isolated b o ≡ true
  isolated_test (on_wire w) (inl h) =
      or_left (tests_clean (circuit_of b) (seen (circuit_of b) w) false) (tests_clean (circuit_of b) (seen (circuit_of b) w) true)
      (clean_test (circuit_of b) (seen (circuit_of b) w) false h)
  isolated_test (on_wire w) (inr h) =
      or_right (tests_clean (circuit_of b) (seen (circuit_of b) w) false) (tests_clean (circuit_of b) (seen (circuit_of b) w) true)
      (clean_test (circuit_of b) (seen (circuit_of b) w) true h)
  isolated_test (on_outputs d) h = clean_test (circuit_of b) (bundle b d) d h

  pub passes_holds : (s : Station) → passes b s ≡ true → Holds b s
  passes_holds wires h = leb-true (wire_count (circuit_of b)) 512 h
  passes_holds masks h = leb-true (mask_count (circuit_of b)) 8 h
  passes_holds (output c) h = test_recombines c h
  passes_holds (breadth o) h = leb-true (size (wire_count (circuit_of b)) (observed b o)) 64 h
  passes_holds (isolation o) h = test_isolated o h

  pub holds_passes : (s : Station) → Holds b s → passes b s ≡ true
  holds_passes wires h = le-leb (wire_count (circuit_of b)) 512 h
  holds_passes masks h = le-leb (mask_count (circuit_of b)) 8 h
  holds_passes (output c) h = recombines_test c h
  holds_passes (breadth o) h = le-leb (size (wire_count (circuit_of b)) (observed b o)) 64 h
  holds_passes (isolation o) h = isolated_test o h
