-- What the two constructions have in common: masks, a pair of cells for each selector, and outputs of one breadth.
use Rattle.std.proofs.Common.{◌≡◌, ℕ, ◌+◌, ◌-◌, ◌*◌, ◌/◌, ◌%◌, ◌<◌, List, ◌++◌, map, length, ap, ◌∙◌, subst, ap₂, zero-add, arith, length-append}
use mathlib.Core.List.{map-append}
use mathlib.Core.Option.{some}
use native.Mathlib.Decide.{dec_lt}
use lib.ListN.{get_elem?}
use Rattle.netlist.specs.Circuit.{Driver, fresh, fresh_after}
use Rattle.isolation.proofs.Carries.{fresh_after_append}
use Rattle.constructions.specs.Gates.{each, rows}
use Rattle.constructions.proofs.Rows.{at_left, at_right, length_each, at_each, map_ones, length_rows, at_row, map_rows, row_at}
use Rattle.constructions.proofs.Fresh.{NoFresh, fresh_masks, no_fresh_rows, no_fresh_append}

-- k masks, n pairs, m outputs
abbrev pub framed : {C : Type 0} → (k n m : ℕ) → C → (ℕ → List C) → (ℕ → List C) → List C
framed k n m mask pair output = each k (λ i. mask) ++ (rows n pair ++ rows m output)

module _ {C : Type 0} (k n m b : ℕ) (mask : C) (pair output : ℕ → List C) (two : (i : ℕ) → length (pair i) ≡ 2) (broad : (c : ℕ) → length (output c) ≡ b) where
  abbrev cells : List C
  cells = framed k n m mask pair output

  length_masks : length (each k (λ i. mask)) ≡ k
  length_masks = length_each k (λ i. mask)

  length_pairs : length (rows n pair) ≡ n * 2
  length_pairs = length_rows n 2 pair two

  pub length_framed : length cells ≡ k + 2 * n + m * b
  length_framed =
      omega (
        arith,
        length_masks,
        length_pairs,
        length_rows m b output broad,
        length-append (each k (λ i. mask)) (rows n pair ++ rows m output),
        length-append (rows n pair) (rows m output),
      )

  pub at_mask : (j : ℕ) → j < k → get_elem? cells j ≡ some mask
  at_mask j h = at_left (each k (λ i. mask)) (rows n pair ++ rows m output) j (omega (arith, length_masks)) ∙ at_each k (λ i. mask) j h

  pub at_pair : (i r : ℕ) → i < n → r < 2 → get_elem? cells (k + (i * 2 + r)) ≡ get_elem? (pair i) r
  at_pair i r h l =
      at_right (each k (λ i. mask)) (rows n pair ++ rows m output) k (i * 2 + r) length_masks
      ∙ at_left (rows n pair) (rows m output) (i * 2 + r) (omega (arith, length_pairs))
      ∙ at_row n 2 pair two i r h l

  pub at_output : (c r : ℕ) → c < m → r < b → get_elem? cells (k + (n * 2 + (c * b + r))) ≡ get_elem? (output c) r
  at_output c r h l =
      at_right (each k (λ i. mask)) (rows n pair ++ rows m output) k (n * 2 + (c * b + r)) length_masks
      ∙ at_right (rows n pair) (rows m output) (n * 2) (c * b + r) length_pairs
      ∙ at_row m b output broad c r h l

-- every wire is a share, a mask, one of a pair or one of an output
module _ (p k n m b : ℕ) (Q : ℕ → Type 0) (some_wires : 0 < b)
    (share : (w : ℕ) → w < p → Q w) (mask : (j : ℕ) → j < k → Q (p + j)) (pair : (i r : ℕ) → i < n → r < 2 → Q (p + k + 2 * i + r))
    (output : (c r : ℕ) → c < m → r < b → Q (p + k + 2 * n + c * b + r)) where
  pub each_place : (w : ℕ) → w < p + k + 2 * n + m * b → Q w
  each_place w h = go (dec_lt w p) (dec_lt w (p + k)) (dec_lt w (p + k + 2 * n))
    where
      go : Dec (w < p) → Dec (w < p + k) → Dec (w < p + k + 2 * n) → Q w
      go (yes x) y z = share w x
      go (no x) (yes y) z = let e : p + (w - p) ≡ w = omega arith in subst Q e (mask (w - p) (omega arith))
      go (no x) (no y) (yes z) =
          let j = w - (p + k) in
          let s = row_at n 2 j (omega arith) (omega arith) in
          let e : p + k + 2 * (j / 2) + j % 2 ≡ w = omega (arith, s.2) in
          subst Q e (pair (j / 2) (j % 2) s.0 s.1)
      go (no x) (no y) (no z) =
          let j = w - (p + k + 2 * n) in
          let s = row_at m b j some_wires (omega arith) in
          let e : p + k + 2 * n + j / b * b + j % b ≡ w = omega (arith, s.2) in
          subst Q e (output (j / b) (j % b) s.0 s.1)

-- only the masks are fresh
pub fresh_framed : (k n m : ℕ) (pair output : ℕ → List Driver) → ((i : ℕ) → NoFresh (pair i)) → ((c : ℕ) → NoFresh (output c))
    → fresh_after (framed k n m fresh pair output) 0 ≡ k
fresh_framed k n m pair output p q =
    fresh_after_append (each k (λ i. fresh)) (rows n pair ++ rows m output) 0
    ∙ ap (fresh_after (rows n pair ++ rows m output)) (fresh_masks k 0 ∙ zero-add k)
    ∙ no_fresh_append (rows n pair) (rows m output) (no_fresh_rows n pair p) (no_fresh_rows m output q) k

pub map_framed : {C D : Type 0} (h : C → D) (k n m : ℕ) (mask : C) (mask' : D) (pair output : ℕ → List C) (pair' output' : ℕ → List D)
    → h mask ≡ mask' → ((i : ℕ) → map h (pair i) ≡ pair' i) → ((c : ℕ) → map h (output c) ≡ output' c)
    → map h (framed k n m mask pair output) ≡ framed k n m mask' pair' output'
map_framed h k n m mask mask' pair output pair' output' e p q =
    map-append h (each k (λ i. mask)) (rows n pair ++ rows m output)
    ∙ ap₂ ◌++◌ (map_ones h k (λ i. mask) (λ i. mask') (λ i. e))
    (map-append h (rows n pair) (rows m output) ∙ ap₂ ◌++◌ (map_rows h n pair pair' p) (map_rows h m output output' q))
