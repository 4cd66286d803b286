-- The steps of the traversal, for any operations.
use Rattle.std.proofs.Common.{◌≡◌, ℕ, zero, suc, ◌+◌, ◌-◌, ◌*◌, ◌<◌, ◌≤◌, List, [], ◌∷◌, ◌++◌, map, length, get_or, take, drop, set, sym, refl, ap, ◌∙◌, add-zero, add-one, arith, length-set, get_or-drop}
use Rattle.std.proofs.lemmas.List.{drop_more, drop-drop, drop-set-lt, take_more_set}
use Rattle.std.proofs.lemmas.Grind.{common_steps}
use Rattle.std.proofs.lemmas.Slice.{drop-append-drop}
use Rattle.netlist.specs.Circuit.{Driver, stored, looked, carry, carried, more_fresh, fresh_after, mask_count}
use Rattle.netlist.specs.Cells.{driver, no_cell}
use Rattle.netlist.specs.Nets.{Net, net_wires, circuit}
use Rattle.value.specs.Values.{Ops}
use Rattle.traverse.specs.Carrying.{given_values, filled, carried_from}

pub more_by_one : (d : Driver) (k : ℕ) → more_fresh d k ≤ k + 1
more_by_one Driver.fresh k = omega arith
more_by_one (stored a) k = omega arith
more_by_one (looked t os) k = omega arith

-- a write at i leaves what is past it
drop_write : {X : Type 0} (xs ys : List X) (i : ℕ) (y : X) → drop i xs ≡ drop i ys → drop (i + 1) (set xs i y) ≡ drop (i + 1) ys
drop_write xs ys i y e = grind (arith, common_steps, drop-set-lt)

module _ {V : Type 0} where
  filled_suc : (n : ℕ) (z : V) (vs : List V) → filled (suc n) z vs ≡ filled n z vs ++ (get_or vs n z ∷ [])
  filled_suc zero z [] = refl
  filled_suc zero z (v ∷ vs) = refl
  filled_suc (suc n) z [] = ap (λ l. z ∷ l) (filled_suc n z [])
  filled_suc (suc n) z (v ∷ vs) = ap (λ l. v ∷ l) (filled_suc n z vs)

  pub length_filled : (n : ℕ) (z : V) (vs : List V) → length (filled n z vs) ≡ n
  length_filled zero z vs = refl
  length_filled (suc n) z [] = ap suc (length_filled n z [])
  length_filled (suc n) z (v ∷ vs) = ap suc (length_filled n z vs)

  -- one share more
  pub shares_again : (i : ℕ) (z v : V) (given before out : List V) → i < length out → v ≡ get_or given i z
      → (take i out ≡ filled i z given) × (drop i out ≡ drop i before)
      → (take (i + 1) (set out i v) ≡ filled (i + 1) z given) × (drop (i + 1) (set out i v) ≡ drop (i + 1) before)
  shares_again i z v given before out l e h =
      let n : suc i ≡ i + 1 = omega arith in (grind (arith, common_steps, filled_suc i z given, n), drop_write out before i v h.1)

  -- k of the values given are taken: what is left gives the same, and so does what is left after one driver more
  pub carried_later : (o : Ops V) (given : List V) (d : Driver) (k : ℕ) (vs : List V) → carried (given_values o (drop k given)) d 0 vs ≡ carried (given_values o given) d k vs
  carried_later o given Driver.fresh k vs = get_or-drop k given 0 o.none ∙ ap (λ i. get_or given i o.none) (add-zero k)
  carried_later o given (stored a) k vs = refl
  carried_later o given (looked t os) k vs = refl

  pub left_later : (given : List V) (d : Driver) (k : ℕ) → drop (more_fresh d 0) (drop k given) ≡ drop (more_fresh d k) given
  left_later given Driver.fresh k = drop-drop 1 k given ∙ ap (λ i. drop i given) (add-one k)
  left_later given (stored a) k = refl
  left_later given (looked t os) k = refl

  -- what the loop over the cells keeps: w wires are done, k values are taken
  abbrev pub Kept : Ops V → Net → List V → List V → ℕ → ℕ → List V → Type 0
  Kept o net given before w k out =
      (carry (given_values o given) (map driver (drop (w - 2 * net.inputs) net.cells)) k (take w out) ≡ carried_from o (circuit net) given)
      × (drop w out ≡ drop w before)
      × (k ≤ w)
      × (length out ≡ length before)

  pub cells_start : (o : Ops V) (net : Net) (given out : List V) (w : ℕ) → w ≡ 2 * net.inputs → take (2 * net.inputs) out ≡ filled (2 * net.inputs) o.none given
      → Kept o net given out w w out
  cells_start o net given out w e h =
      let n = 2 * net.inputs in
      let z : w - n ≡ 0 = omega arith in (
        ap (λ i. carry (given_values o given) (map driver (drop i net.cells)) w (take w out)) z
            ∙ ap (λ i. carry (given_values o given) (map driver net.cells) i (take i out)) e ∙ ap (carry (given_values o given) (map driver net.cells) n) h,
        refl,
        omega arith,
        refl,
      )

  pub cells_again : (o : Ops V) (net : Net) (given before out : List V) (w k fresh : ℕ) (v : V) → 2 * net.inputs ≤ w → w < net_wires net → net_wires net ≤ length out
      → v ≡ carried (given_values o given) (driver (get_or net.cells (w - 2 * net.inputs) no_cell)) k (take w out)
      → fresh ≡ more_fresh (driver (get_or net.cells (w - 2 * net.inputs) no_cell)) k → fresh ≤ k + 1
      → Kept o net given before w k out → Kept o net given before (w + 1) fresh (set out w v)
  cells_again o net given before out w k fresh v l m room ev ef bound h =
      let A = given_values o given in
      let j = w - 2 * net.inputs in
      let x = get_or net.cells j no_cell in
      let next : w + 1 - 2 * net.inputs ≡ j + 1 = omega arith in
      let here : drop j net.cells ≡ x ∷ drop (j + 1) net.cells = drop_more net.cells j no_cell (omega arith) in
      let front : take (w + 1) (set out w v) ≡ take w out ++ (v ∷ []) = take_more_set out w v (omega arith) in (
        ap (λ i. carry A (map driver (drop i net.cells)) fresh (take (w + 1) (set out w v))) next
            ∙ ap (carry A (map driver (drop (j + 1) net.cells)) fresh) (front ∙ ap (λ y. take w out ++ (y ∷ [])) ev)
            ∙ ap (λ f. carry A (map driver (drop (j + 1) net.cells)) f (take w out ++ (carried A (driver x) k (take w out) ∷ []))) ef
            ∙ sym (ap (λ cs. carry A (map driver cs) k (take w out)) here) ∙ h.0,
        drop_write out before w v h.1,
        omega (arith, h.2),
        length-set out w v ∙ h.3,
      )

  pub rest_kept : (n p w : ℕ) (z : V) (given out mid : List V) → n ≡ p → p ≤ w → mid ≡ filled n z given ++ drop n out → drop w mid ≡ drop w out
  rest_kept n p w z given out mid e l h =
      ap (drop w) (h ∙ ap (λ m. filled m z given ++ drop m out) e) ∙ drop-append-drop p out (filled p z given) w l (length_filled p z given)

-- what counting the masks keeps: w wires are done, k of them are masks
abbrev pub Counted : Net → ℕ → ℕ → Type 0
Counted net w k = (fresh_after (map driver (drop (w - 2 * net.inputs) net.cells)) k ≡ mask_count (circuit net)) × (k ≤ w)
