-- Where each cell of GHPC_LL stands.
use Rattle.std.proofs.Common.{◌≡◌, ℕ, suc, pred, ◌+◌, ◌*◌, ◌<◌, true, false, eqb, List, [], ◌∷◌, ◌++◌, length, refl, ◌∙◌, arith, length-append}
use mathlib.Core.Option.{some}
use lib.ListN.{get_elem?}
use lib.Bits.{bit_xor}
use Rattle.std.proofs.lemmas.Nat.{mul-add-lt}
use Rattle.block.specs.Blocks.{Table, output_at}
use Rattle.constructions.specs.Gates.{each, rows, argument_count, Gates}
use Rattle.constructions.specs.LowLatency.{mask, decoded, selector, breadth, start, entry, masked, held, product_1, product_0, partial_1, partial_0, output_0, selector_cells, product_cells, join_1, join_0, output_cells, cells}
use Rattle.constructions.proofs.Rows.{at_left, at_right, length_each, at_each, length_rows, at_row}
use Rattle.constructions.proofs.Frame.{length_framed, at_mask, at_pair, at_output}
use Rattle.constructions.proofs.Standing.{Stands}

-- mask i of output c is among the masks
pub mask_within : (t : Table) (c i : ℕ) → c < t.m → i < argument_count t → c * argument_count t + i < t.m * argument_count t
mask_within t c i h l = omega (arith, mul-add-lt c (argument_count t) i t.m h l)

module _ {C : Type 0} (t : Table) (g : Gates C) where
  -- the parts of output c: its products, the joins of both domains, and its last register
  abbrev pub products : ℕ → List C
  products c = rows (argument_count t) (product_cells t g c)

  abbrev pub joins_1 : ℕ → List C
  joins_1 c = each (pred (argument_count t)) (join_1 t g c)

  abbrev pub joins_0 : ℕ → List C
  joins_0 c = each (pred (argument_count t)) (join_0 t g c)

  abbrev pub last : ℕ → List C
  last c = g.reg (partial_0 t c (pred (argument_count t))) ∷ []

  length_products : (c : ℕ) → length (products c) ≡ argument_count t * 5
  length_products c = length_rows (argument_count t) 5 (product_cells t g c) (λ i. refl)

  length_joins_1 : (c : ℕ) → length (joins_1 c) ≡ pred (argument_count t)
  length_joins_1 c = length_each (pred (argument_count t)) (join_1 t g c)

  length_joins_0 : (c : ℕ) → length (joins_0 c) ≡ pred (argument_count t)
  length_joins_0 c = length_each (pred (argument_count t)) (join_0 t g c)

  length_output : (c : ℕ) → length (output_cells t g c) ≡ breadth t
  length_output c =
      omega (
        arith,
        length_products c,
        length_joins_1 c,
        length_joins_0 c,
        length-append (products c) (joins_1 c ++ (joins_0 c ++ last c)),
        length-append (joins_1 c) (joins_0 c ++ last c),
        length-append (joins_0 c) (last c),
      )

  pub length_cells : length (cells t g) ≡ t.m * argument_count t + 2 * argument_count t + t.m * breadth t
  length_cells = length_framed (t.m * argument_count t) (argument_count t) t.m (breadth t) g.mask (selector_cells t g) (output_cells t g) (λ i. refl) length_output

  -- by parts
  pub at_masks : (k : ℕ) → k < t.m * argument_count t → get_elem? (cells t g) k ≡ some g.mask
  at_masks = at_mask (t.m * argument_count t) (argument_count t) t.m (breadth t) g.mask (selector_cells t g) (output_cells t g) (λ i. refl) length_output

  pub at_selectors : (i r : ℕ) → i < argument_count t → r < 2 → get_elem? (cells t g) (t.m * argument_count t + (i * 2 + r)) ≡ get_elem? (selector_cells t g i) r
  at_selectors = at_pair (t.m * argument_count t) (argument_count t) t.m (breadth t) g.mask (selector_cells t g) (output_cells t g) (λ i. refl) length_output

  pub at_outputs : (c r : ℕ) → c < t.m → r < breadth t
      → get_elem? (cells t g) (t.m * argument_count t + (argument_count t * 2 + (c * breadth t + r))) ≡ get_elem? (output_cells t g c) r
  at_outputs = at_output (t.m * argument_count t) (argument_count t) t.m (breadth t) g.mask (selector_cells t g) (output_cells t g) (λ i. refl) length_output

  pub at_products : (c i r : ℕ) → i < argument_count t → r < 5 → get_elem? (output_cells t g c) (i * 5 + r) ≡ get_elem? (product_cells t g c i) r
  at_products c i r h l =
      at_left (products c) (joins_1 c ++ (joins_0 c ++ last c)) (i * 5 + r) (omega (arith, length_products c))
      ∙ at_row (argument_count t) 5 (product_cells t g c) (λ i. refl) i r h l

  pub at_joins_1 : (c j : ℕ) → j < pred (argument_count t) → get_elem? (output_cells t g c) (argument_count t * 5 + j) ≡ some (join_1 t g c j)
  at_joins_1 c j h =
      at_right (products c) (joins_1 c ++ (joins_0 c ++ last c)) (argument_count t * 5) j (length_products c)
      ∙ at_left (joins_1 c) (joins_0 c ++ last c) j (omega (arith, length_joins_1 c))
      ∙ at_each (pred (argument_count t)) (join_1 t g c) j h

  pub at_joins_0 : (c j : ℕ) → j < pred (argument_count t) → get_elem? (output_cells t g c) (argument_count t * 5 + (pred (argument_count t) + j)) ≡ some (join_0 t g c j)
  at_joins_0 c j h =
      at_right (products c) (joins_1 c ++ (joins_0 c ++ last c)) (argument_count t * 5) (pred (argument_count t) + j) (length_products c)
      ∙ at_right (joins_1 c) (joins_0 c ++ last c) (pred (argument_count t)) j (length_joins_1 c)
      ∙ at_left (joins_0 c) (last c) j (omega (arith, length_joins_0 c))
      ∙ at_each (pred (argument_count t)) (join_0 t g c) j h

  pub at_last : (c : ℕ) → get_elem? (output_cells t g c) (argument_count t * 5 + (pred (argument_count t) + (pred (argument_count t) + 0))) ≡ some (g.reg (partial_0 t c (pred (argument_count t))))
  at_last c =
      at_right (products c) (joins_1 c ++ (joins_0 c ++ last c)) (argument_count t * 5) (pred (argument_count t) + (pred (argument_count t) + 0)) (length_products c)
      ∙ at_right (joins_1 c) (joins_0 c ++ last c) (pred (argument_count t)) (pred (argument_count t) + 0) (length_joins_1 c)
      ∙ at_right (joins_0 c) (last c) (pred (argument_count t)) 0 (length_joins_0 c)

  -- by wires
  abbrev On : ℕ → C → Type 0
  On w x = Stands (2 * t.n) (cells t g) w x

  in_output : (w c r : ℕ) (x : C) → c < t.m → r < breadth t → w ≡ start t c + r → get_elem? (output_cells t g c) r ≡ some x → On w x
  in_output w c r x h l e s = (t.m * argument_count t + (argument_count t * 2 + (c * breadth t + r)), omega arith, at_outputs c r h l ∙ s)

  in_product : (w c i r : ℕ) (x : C) → c < t.m → i < argument_count t → r < 5 → w ≡ start t c + 5 * i + r → get_elem? (product_cells t g c i) r ≡ some x → On w x
  in_product w c i r x h l b e s = in_output w c (i * 5 + r) x h (omega arith) (omega arith) (at_products c i r l b ∙ s)

  pub stands_mask : (c i : ℕ) → c < t.m → i < argument_count t → On (mask t c i) g.mask
  stands_mask c i h l = (c * argument_count t + i, refl, at_masks (c * argument_count t + i) (mask_within t c i h l))

  pub stands_decoded : (i : ℕ) → i < argument_count t → On (decoded t i) (g.look true (λ a. eqb a i))
  stands_decoded i h = (t.m * argument_count t + (i * 2 + 0), omega arith, at_selectors i 0 h (omega arith))

  pub stands_selector : (i : ℕ) → i < argument_count t → On (selector t i) (g.reg (decoded t i))
  stands_selector i h = (t.m * argument_count t + (i * 2 + 1), omega arith, at_selectors i 1 h (omega arith))

  module _ (c : ℕ) (h : c < t.m) where
    pub stands_entry : (i : ℕ) → i < argument_count t → On (entry t c i) (g.look false (λ a. output_at t c (bit_xor a i)))
    stands_entry i l = in_product (entry t c i) c i 0 (g.look false (λ a. output_at t c (bit_xor a i))) h l (omega arith) (omega arith) refl

    pub stands_masked : (i : ℕ) → i < argument_count t → On (masked t c i) (g.xor (entry t c i) (mask t c i))
    stands_masked i l = in_product (masked t c i) c i 1 (g.xor (entry t c i) (mask t c i)) h l (omega arith) refl refl

    pub stands_held : (i : ℕ) → i < argument_count t → On (held t c i) (g.reg (masked t c i))
    stands_held i l = in_product (held t c i) c i 2 (g.reg (masked t c i)) h l (omega arith) refl refl

    pub stands_product_1 : (i : ℕ) → i < argument_count t → On (product_1 t c i) (g.and (selector t i) (held t c i))
    stands_product_1 i l = in_product (product_1 t c i) c i 3 (g.and (selector t i) (held t c i)) h l (omega arith) refl refl

    pub stands_product_0 : (i : ℕ) → i < argument_count t → On (product_0 t c i) (g.and (decoded t i) (mask t c i))
    stands_product_0 i l = in_product (product_0 t c i) c i 4 (g.and (decoded t i) (mask t c i)) h l (omega arith) refl refl

    pub stands_partial_1 : (j : ℕ) → j < pred (argument_count t) → On (partial_1 t c (suc j)) (g.xor (partial_1 t c j) (product_1 t c (suc j)))
    stands_partial_1 j l = in_output (partial_1 t c (suc j)) c (argument_count t * 5 + j) (join_1 t g c j) h (omega arith) (omega arith) (at_joins_1 c j l)

    pub stands_partial_0 : (j : ℕ) → j < pred (argument_count t) → On (partial_0 t c (suc j)) (g.xor (partial_0 t c j) (product_0 t c (suc j)))
    stands_partial_0 j l =
        in_output (partial_0 t c (suc j)) c (argument_count t * 5 + (pred (argument_count t) + j)) (join_0 t g c j) h (omega arith) (omega arith) (at_joins_0 c j l)

    pub stands_output_0 : On (output_0 t c) (g.reg (partial_0 t c (pred (argument_count t))))
    stands_output_0 =
        in_output (output_0 t c) c (argument_count t * 5 + (pred (argument_count t) + (pred (argument_count t) + 0))) (g.reg (partial_0 t c (pred (argument_count t)))) h (omega arith) (omega arith) (at_last c)
