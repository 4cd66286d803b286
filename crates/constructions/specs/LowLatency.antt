-- GHPC_LL: the block of a table that trades masks for a register stage, its wires by name and its cells in order.
use Rattle.std.specs.Prelude.{ℕ, zero, suc, pred, ◌+◌, ◌*◌, true, false, List, [], ◌∷◌, ◌++◌, bit_xor, nat_eq}
use Rattle.block.specs.Blocks.{Table, Whole, output_at}
use Rattle.constructions.specs.Gates.{each, rows, argument_count, Gates, cell_gates}

module _ (t : Table) where
  -- mask i of output c; the masks stand output by output
  abbrev pub mask : ℕ → ℕ → ℕ
  mask c i = 2 * t.n + (c * argument_count t + i)

  -- whether the shares of domain 1 are i: the look-up, and the selector, its register
  abbrev pub decoded : ℕ → ℕ
  decoded i = 2 * t.n + t.m * argument_count t + 2 * i

  abbrev pub selector : ℕ → ℕ
  selector i = 2 * t.n + t.m * argument_count t + 2 * i + 1

  -- how many wires an output has, and the first of those of output c
  abbrev pub breadth : ℕ
  breadth = 5 * argument_count t + 2 * pred (argument_count t) + 1

  abbrev pub start : ℕ → ℕ
  start c = 2 * t.n + t.m * argument_count t + 2 * argument_count t + c * breadth

  -- output c if domain 1 were i: the look-up, its XOR with mask i, the register of that, its AND with the selector,
  -- and the AND of the look-up over domain 1 and mask i
  abbrev pub entry : ℕ → ℕ → ℕ
  entry c i = start c + 5 * i

  abbrev pub masked : ℕ → ℕ → ℕ
  masked c i = start c + 5 * i + 1

  abbrev pub held : ℕ → ℕ → ℕ
  held c i = start c + 5 * i + 2

  abbrev pub product_1 : ℕ → ℕ → ℕ
  product_1 c i = start c + 5 * i + 3

  abbrev pub product_0 : ℕ → ℕ → ℕ
  product_0 c i = start c + 5 * i + 4

  -- the products 0 to j of either domain joined
  abbrev pub partial_1 : ℕ → ℕ → ℕ
  partial_1 c zero = product_1 c 0
  partial_1 c (suc j) = start c + 5 * argument_count t + j

  abbrev pub partial_0 : ℕ → ℕ → ℕ
  partial_0 c zero = product_0 c 0
  partial_0 c (suc j) = start c + 5 * argument_count t + pred (argument_count t) + j

  -- the outputs: all products joined, and in domain 0 the register of that
  abbrev pub output_0 : ℕ → ℕ
  output_0 c = start c + 5 * argument_count t + 2 * pred (argument_count t)

  abbrev pub output_1 : ℕ → ℕ
  output_1 c = partial_1 c (pred (argument_count t))

  abbrev pub outputs_of : ℕ → ℕ × ℕ
  outputs_of c = (output_0 c, output_1 c)

  module _ {C : Type 0} (g : Gates C) where
    abbrev pub selector_cells : ℕ → List C
    selector_cells i = g.look true (λ a. nat_eq a i) ∷ g.reg (decoded i) ∷ []

    abbrev pub product_cells : ℕ → ℕ → List C
    product_cells c i =
        g.look false (λ a. output_at t c (bit_xor a i)) ∷ g.xor (entry c i) (mask c i) ∷ g.reg (masked c i)
        ∷ g.and (selector i) (held c i) ∷ g.and (decoded i) (mask c i) ∷ []

    abbrev pub join_1 : ℕ → ℕ → C
    join_1 c j = g.xor (partial_1 c j) (product_1 c (suc j))

    abbrev pub join_0 : ℕ → ℕ → C
    join_0 c j = g.xor (partial_0 c j) (product_0 c (suc j))

    abbrev pub output_cells : ℕ → List C
    output_cells c =
        rows (argument_count t) (product_cells c) ++ (each (pred (argument_count t)) (join_1 c) ++ (each (pred (argument_count t)) (join_0 c) ++ (g.reg (partial_0 c (pred (argument_count t))) ∷ [])))

    -- the masks, the selectors, and then output by output
    abbrev pub cells : List C
    cells = each (t.m * argument_count t) (λ k. g.mask) ++ (rows (argument_count t) selector_cells ++ rows t.m output_cells)

  abbrev pub low_latency_of : Whole
  low_latency_of = record { table = t; cells = cells (cell_gates t); outputs = each t.m outputs_of }
