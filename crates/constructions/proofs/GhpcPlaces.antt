-- Where each cell of GHPC stands.
use Rattle.std.proofs.Common.{◌≡◌, ℕ, suc, pred, ◌+◌, ◌*◌, ◌<◌, true, false, eqb, List, ◌++◌, length, refl, ◌∙◌, arith, length-append}
use mathlib.Core.Option.{some}
use lib.ListN.{get_elem?}
use lib.Bits.{bit_xor}
use Rattle.block.specs.Blocks.{Table, output_at}
use Rattle.constructions.specs.Gates.{each, rows, argument_count, Gates}
use Rattle.constructions.specs.Ghpc.{mask, decoded, selector, breadth, start, entry, masked, held, product, term, partial, delayed, output_0, selector_cells, product_cells, join_cell, delay_cells, output_cells, cells}
use Rattle.constructions.proofs.Numbers.{some_arguments}
use Rattle.constructions.proofs.Rows.{at_left, at_right, length_each, at_each, length_rows, at_row}
use Rattle.constructions.proofs.Frame.{length_framed, at_mask, at_pair, at_output}
use Rattle.constructions.proofs.Standing.{Stands}

module _ {C : Type 0} (t : Table) (g : Gates C) where
  -- the parts of output c before its delays: its products and their joins
  abbrev pub products : ℕ → List C
  products c = rows (argument_count t) (product_cells t g c)

  abbrev pub joins : ℕ → List C
  joins c = each (pred (argument_count t)) (join_cell t g c)

  length_products : (c : ℕ) → length (products c) ≡ argument_count t * 5
  length_products c = length_rows (argument_count t) 5 (product_cells t g c) (λ i. refl)

  length_joins : (c : ℕ) → length (joins c) ≡ pred (argument_count t)
  length_joins c = length_each (pred (argument_count t)) (join_cell t g c)

  length_output : (c : ℕ) → length (output_cells t g c) ≡ breadth t
  length_output c =
      omega (
        arith,
        length_products c,
        length_joins c,
        length-append (products c) (joins c ++ delay_cells t g c),
        length-append (joins c) (delay_cells t g c),
        some_arguments t,
      )

  pub length_cells : length (cells t g) ≡ t.m + 2 * argument_count t + t.m * breadth t
  length_cells = length_framed t.m (argument_count t) t.m (breadth t) g.mask (selector_cells t g) (output_cells t g) (λ i. refl) length_output

  -- by parts
  pub at_masks : (c : ℕ) → c < t.m → get_elem? (cells t g) c ≡ some g.mask
  at_masks = at_mask t.m (argument_count t) t.m (breadth t) g.mask (selector_cells t g) (output_cells t g) (λ i. refl) length_output

  pub at_selectors : (i r : ℕ) → i < argument_count t → r < 2 → get_elem? (cells t g) (t.m + (i * 2 + r)) ≡ get_elem? (selector_cells t g i) r
  at_selectors = at_pair t.m (argument_count t) t.m (breadth t) g.mask (selector_cells t g) (output_cells t g) (λ i. refl) length_output

  pub at_outputs : (c r : ℕ) → c < t.m → r < breadth t
      → get_elem? (cells t g) (t.m + (argument_count t * 2 + (c * breadth t + r))) ≡ get_elem? (output_cells t g c) r
  at_outputs = at_output t.m (argument_count t) t.m (breadth t) g.mask (selector_cells t g) (output_cells t g) (λ i. refl) length_output

  pub at_products : (c i r : ℕ) → i < argument_count t → r < 5 → get_elem? (output_cells t g c) (i * 5 + r) ≡ get_elem? (product_cells t g c i) r
  at_products c i r h l =
      at_left (products c) (joins c ++ delay_cells t g c) (i * 5 + r) (omega (arith, length_products c))
      ∙ at_row (argument_count t) 5 (product_cells t g c) (λ i. refl) i r h l

  pub at_joins : (c j : ℕ) → j < pred (argument_count t) → get_elem? (output_cells t g c) (argument_count t * 5 + j) ≡ some (join_cell t g c j)
  at_joins c j h =
      at_right (products c) (joins c ++ delay_cells t g c) (argument_count t * 5) j (length_products c)
      ∙ at_left (joins c) (delay_cells t g c) j (omega (arith, length_joins c))
      ∙ at_each (pred (argument_count t)) (join_cell t g c) j h

  pub at_delays : (c r : ℕ) → get_elem? (output_cells t g c) (argument_count t * 5 + (pred (argument_count t) + r)) ≡ get_elem? (delay_cells t g c) r
  at_delays c r =
      at_right (products c) (joins c ++ delay_cells t g c) (argument_count t * 5) (pred (argument_count t) + r) (length_products c)
      ∙ at_right (joins c) (delay_cells t g c) (pred (argument_count t)) r (length_joins c)

  -- by wires
  abbrev On : ℕ → C → Type 0
  On w x = Stands (2 * t.n) (cells t g) w x

  in_output : (w c r : ℕ) (x : C) → c < t.m → r < breadth t → w ≡ start t c + r → get_elem? (output_cells t g c) r ≡ some x → On w x
  in_output w c r x h l e s = (t.m + (argument_count t * 2 + (c * breadth t + r)), omega arith, at_outputs c r h l ∙ s)

  in_product : (w c i r : ℕ) (x : C) → c < t.m → i < argument_count t → r < 5 → w ≡ start t c + 5 * i + r → get_elem? (product_cells t g c i) r ≡ some x → On w x
  in_product w c i r x h l b e s = in_output w c (i * 5 + r) x h (omega arith) (omega arith) (at_products c i r l b ∙ s)

  pub stands_mask : (c : ℕ) → c < t.m → On (mask t c) g.mask
  stands_mask c h = (c, refl, at_masks c h)

  pub stands_decoded : (i : ℕ) → i < argument_count t → On (decoded t i) (g.look true (λ a. eqb a i))
  stands_decoded i h = (t.m + (i * 2 + 0), omega arith, at_selectors i 0 h (omega arith))

  pub stands_selector : (i : ℕ) → i < argument_count t → On (selector t i) (g.reg (decoded t i))
  stands_selector i h = (t.m + (i * 2 + 1), omega arith, at_selectors i 1 h (omega arith))

  module _ (c : ℕ) (h : c < t.m) where
    pub stands_entry : (i : ℕ) → i < argument_count t → On (entry t c i) (g.look false (λ a. output_at t c (bit_xor a i)))
    stands_entry i l = in_product (entry t c i) c i 0 (g.look false (λ a. output_at t c (bit_xor a i))) h l (omega arith) (omega arith) refl

    pub stands_masked : (i : ℕ) → i < argument_count t → On (masked t c i) (g.xor (entry t c i) (mask t c))
    stands_masked i l = in_product (masked t c i) c i 1 (g.xor (entry t c i) (mask t c)) h l (omega arith) refl refl

    pub stands_held : (i : ℕ) → i < argument_count t → On (held t c i) (g.reg (masked t c i))
    stands_held i l = in_product (held t c i) c i 2 (g.reg (masked t c i)) h l (omega arith) refl refl

    pub stands_product : (i : ℕ) → i < argument_count t → On (product t c i) (g.and (selector t i) (held t c i))
    stands_product i l = in_product (product t c i) c i 3 (g.and (selector t i) (held t c i)) h l (omega arith) refl refl

    pub stands_term : (i : ℕ) → i < argument_count t → On (term t c i) (g.reg (product t c i))
    stands_term i l = in_product (term t c i) c i 4 (g.reg (product t c i)) h l (omega arith) refl refl

    pub stands_partial : (j : ℕ) → j < pred (argument_count t) → On (partial t c (suc j)) (g.xor (partial t c j) (term t c (suc j)))
    stands_partial j l = in_output (partial t c (suc j)) c (argument_count t * 5 + j) (join_cell t g c j) h (omega arith) (omega arith) (at_joins c j l)

    pub stands_delayed : On (delayed t c) (g.reg (mask t c))
    stands_delayed =
        in_output (delayed t c) c (argument_count t * 5 + (pred (argument_count t) + 0)) (g.reg (mask t c)) h (omega (arith, some_arguments t)) (omega arith) (at_delays c 0)

    pub stands_output_0 : On (output_0 t c) (g.reg (delayed t c))
    stands_output_0 =
        in_output (output_0 t c) c (argument_count t * 5 + (pred (argument_count t) + 1)) (g.reg (delayed t c)) h (omega (arith, some_arguments t)) (omega arith) (at_delays c 1)
