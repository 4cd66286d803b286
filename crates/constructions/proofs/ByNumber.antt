-- Reading a netlist by wire number, from where its cells stand in their list.
use Rattle.std.proofs.Common.{◌≡◌, ℕ, zero, suc, ◌+◌, ◌-◌, ◌*◌, List, [], ◌∷◌, Some, None, Option, sym, refl, ap, ◌∙◌, arith}
use mathlib.Core.Option.{Option as Optional, none, some}
use lib.ListN.{get_elem?}
use Rattle.netlist.specs.declared.cell.Cell.{Cell}
use Rattle.netlist.specs.Nets.{Net, nth, cell_at}
use Rattle.netlist.proofs.Places.{cell_at_cell}

module _ {A : Type 0} where
  abbrev std_option : Optional A → Option A
  std_option none = None
  std_option (some a) = Some a

  nth_elem : (xs : List A) (k : ℕ) → nth xs k ≡ std_option (get_elem? xs k)
  nth_elem [] k = refl
  nth_elem (x ∷ xs) zero = refl
  nth_elem (x ∷ xs) (suc k) = nth_elem xs k

  pub nth_same : (xs ys : List A) (j k : ℕ) → get_elem? xs j ≡ get_elem? ys k → nth xs j ≡ nth ys k
  nth_same xs ys j k e = nth_elem xs j ∙ ap std_option e ∙ sym (nth_elem ys k)

pub read_cell : (net : Net) (w j : ℕ) (ys : List Cell) (k : ℕ) → w ≡ 2 * net.inputs + j → get_elem? net.cells j ≡ get_elem? ys k → cell_at net w ≡ nth ys k
read_cell net w j ys k e s =
    let z : w - 2 * net.inputs ≡ j = omega arith in
    cell_at_cell net w (omega arith) ∙ ap (nth net.cells) z ∙ nth_same net.cells ys j k s
