-- A test of a set by all settings of shares and masks: it says whether the set is clean.
use Rattle.std.specs.Prelude.{ℕ, zero, suc, Bool, false, ◌&&◌, List, [], ◌∷◌, true, replicate, nat_eq}
use Rattle.netlist.specs.Circuit.{Circuit, Wires, mask_count, settled}
use Rattle.isolation.specs.Patterns.{pattern, shares, count}

-- a test that holds of all lists of k bits
abbrev pub every : ℕ → (List Bool → Bool) → Bool
every zero f = f []
every (suc k) f = every k (λ m. f (false ∷ m)) && every k (λ m. f (true ∷ m))

module _ (c : Circuit) (S : Wires) where
  -- every pattern that arises at u arises equally often at v
  abbrev pub covered : List Bool → List Bool → Bool
  covered u v = every (mask_count c) (λ m. nat_eq (count c S u (pattern S (settled c u m))) (count c S v (pattern S (settled c u m))))

  -- any shares of the other domain show what all zeros show
  abbrev pub tests_clean : Bool → Bool
  tests_clean d = every c.inputs (λ x. every c.inputs (λ y.
      covered (shares d x y) (shares d x (replicate c.inputs false)) && covered (shares d x (replicate c.inputs false)) (shares d x y)))
