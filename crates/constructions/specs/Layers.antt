-- How the wires of a generated block are laid out.
use Rattle.std.specs.Prelude.{◌≡◌, ℕ, ◌+◌, ◌*◌, ◌/◌, ◌%◌, ◌<◌, ◌≤◌, true, false, List, [], ◌∷◌, Some, bit_xor, nat_eq}
use Rattle.netlist.specs.declared.cell.Cell.{Cell}
use Rattle.netlist.specs.Nets.{nth, cell_at, net_wires}
use Rattle.block.specs.Blocks.{Table, Whole, net_part, output_at}
use Rattle.constructions.specs.Gates.{argument_count, cell_gates}

-- the cells that tell whether the shares of domain 1 are i, from wire `first` on: the look-up and its register
abbrev pub selecting_cells : Table → ℕ → ℕ → List Cell
selecting_cells t first i = (cell_gates t).look true (λ a. nat_eq a i) ∷ (cell_gates t).reg (first + 2 * i) ∷ []

-- where the selectors start, after the shares and the masks, and where the first output starts
abbrev pub first_selector : Table → ℕ → ℕ
first_selector t masks = 2 * t.n + masks

abbrev pub first_output : Table → ℕ → ℕ
first_output t masks = 2 * t.n + masks + 2 * argument_count t

-- output c if the shares of domain 1 were i, from wire `entry` on: the look-up, its XOR with the mask, the register of that, and its AND with the selector,
-- the register of the look-up that stands on wire `decoded`; and a last cell
abbrev pub selected_cells : Table → (c i entry mask decoded : ℕ) → Cell → List Cell
selected_cells t c i entry mask decoded last =
    (cell_gates t).look false (λ a. output_at t c (bit_xor a i)) ∷ (cell_gates t).xor entry mask ∷ (cell_gates t).reg (entry + 1)
    ∷ (cell_gates t).and (decoded + 1) (entry + 2) ∷ last ∷ []

-- the block of t in layers: after the shares the masks, then two wires for each argument, and then so many wires for each output
pub record Layered (t : Table) (b : Whole) (masks breadth : ℕ) (cells : ℕ → List Cell) : Type 0 where
  pub table : b.table ≡ t
  pub wires : net_wires (net_part b) ≡ first_output t masks + t.m * breadth
  pub broad : 1 ≤ breadth
  pub at_masks : (k : ℕ) → k < masks → cell_at (net_part b) (2 * t.n + k) ≡ Some (cell_gates t).mask
  pub at_selectors : (k : ℕ) → k < 2 * argument_count t → cell_at (net_part b) (first_selector t masks + k) ≡ nth (selecting_cells t (first_selector t masks) (k / 2)) (k % 2)
  pub at_outputs : (c r : ℕ) → c < t.m → r < breadth → cell_at (net_part b) (first_output t masks + (c * breadth + r)) ≡ nth (cells c) r
