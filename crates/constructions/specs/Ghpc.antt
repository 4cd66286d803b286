-- GHPC: the block of a table, its wires by name and its cells in order.
use Rattle.std.specs.Prelude.{ℕ, zero, suc, pred, ◌+◌, ◌*◌, true, false, List, [], ◌∷◌, ◌++◌, bit_xor, nat_eq}
use Rattle.block.specs.Blocks.{Table, Whole, output_at}
use Rattle.constructions.specs.Gates.{each, rows, argument_count, Gates, cell_gates}

module _ (t : Table) where
  -- the mask of output c
  abbrev pub mask : ℕ → ℕ
  mask c = 2 * t.n + c

  -- whether the shares of domain 1 are i: the look-up, and the selector, its register
  abbrev pub decoded : ℕ → ℕ
  decoded i = 2 * t.n + t.m + 2 * i

  abbrev pub selector : ℕ → ℕ
  selector i = 2 * t.n + t.m + 2 * i + 1

  -- how many wires an output has, and the first of those of output c
  abbrev pub breadth : ℕ
  breadth = 6 * argument_count t + 1

  abbrev pub start : ℕ → ℕ
  start c = 2 * t.n + t.m + 2 * argument_count t + c * breadth

  -- output c if domain 1 were i: the look-up, its XOR with the mask, the register of that, its AND with the selector, and the register of that
  abbrev pub entry : ℕ → ℕ → ℕ
  entry c i = start c + 5 * i

  abbrev pub masked : ℕ → ℕ → ℕ
  masked c i = start c + 5 * i + 1

  abbrev pub held : ℕ → ℕ → ℕ
  held c i = start c + 5 * i + 2

  abbrev pub product : ℕ → ℕ → ℕ
  product c i = start c + 5 * i + 3

  abbrev pub term : ℕ → ℕ → ℕ
  term c i = start c + 5 * i + 4

  -- the terms 0 to j joined
  abbrev pub partial : ℕ → ℕ → ℕ
  partial c zero = term c 0
  partial c (suc j) = start c + 5 * argument_count t + j

  -- the register of the mask
  abbrev pub delayed : ℕ → ℕ
  delayed c = start c + 5 * argument_count t + pred (argument_count t)

  -- the outputs: the register of that register in domain 0, all terms joined in domain 1
  abbrev pub output_0 : ℕ → ℕ
  output_0 c = start c + 5 * argument_count t + pred (argument_count t) + 1

  abbrev pub output_1 : ℕ → ℕ
  output_1 c = partial c (pred (argument_count t))

  abbrev pub outputs_of : ℕ → ℕ × ℕ
  outputs_of c = (output_0 c, output_1 c)

  module _ {C : Type 0} (g : Gates C) where
    abbrev pub selector_cells : ℕ → List C
    selector_cells i = g.look true (λ a. nat_eq a i) ∷ g.reg (decoded i) ∷ []

    abbrev pub product_cells : ℕ → ℕ → List C
    product_cells c i =
        g.look false (λ a. output_at t c (bit_xor a i)) ∷ g.xor (entry c i) (mask c) ∷ g.reg (masked c i)
        ∷ g.and (selector i) (held c i) ∷ g.reg (product c i) ∷ []

    abbrev pub join_cell : ℕ → ℕ → C
    join_cell c j = g.xor (partial c j) (term c (suc j))

    abbrev pub delay_cells : ℕ → List C
    delay_cells c = g.reg (mask c) ∷ g.reg (delayed c) ∷ []

    abbrev pub output_cells : ℕ → List C
    output_cells c = rows (argument_count t) (product_cells c) ++ (each (pred (argument_count t)) (join_cell c) ++ delay_cells c)

    -- the masks, the selectors, and then output by output
    abbrev pub cells : List C
    cells = each t.m (λ c. g.mask) ++ (rows (argument_count t) selector_cells ++ rows t.m output_cells)

  abbrev pub ghpc_of : Whole
  ghpc_of = record { table = t; cells = cells (cell_gates t); outputs = each t.m outputs_of }
