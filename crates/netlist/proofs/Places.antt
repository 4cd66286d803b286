-- What stands at a place of a list, and the cell of a wire by where the wire lies.
use Rattle.std.proofs.Common.{◌≡◌, ℕ, zero, suc, ◌+◌, ◌-◌, ◌*◌, ◌<◌, ◌≤◌, List, [], ◌∷◌, length, get_or, slice_get, unwrap_or, Some, None, Option, sym, refl, ap, ◌∙◌, arith, le-ltb, lt-ltb}
use Rattle.std.proofs.lemmas.Option.{slice_get_past, slice_get-get_or, unwrap_or-slice_get}
use lib.ListN.{length-map}
use Rattle.netlist.specs.Circuit.{wire_count}
use Rattle.netlist.specs.Nets.{Net, nth, cell_at, net_wires, circuit}
use Rattle.netlist.specs.Cells.{driver, no_cell}

module _ {A : Type 0} where
  -- what is read at a place is what the library's `slice_get` reads
  pub nth_is : (xs : List A) (k : ℕ) → nth xs k ≡ slice_get xs k
  nth_is [] k = refl
  nth_is (x ∷ xs) zero = refl
  nth_is (x ∷ xs) (suc k) = nth_is xs k

  pub nth_past : (xs : List A) (k : ℕ) → length xs ≤ k → nth xs k ≡ None
  nth_past xs k h = nth_is xs k ∙ slice_get_past xs k h

  pub nth_get_or : (xs : List A) (k : ℕ) (d : A) → k < length xs → nth xs k ≡ Some (get_or xs k d)
  nth_get_or xs k d h = nth_is xs k ∙ slice_get-get_or xs k d h

  -- what a read gives says what stands there
  pub get_or_nth : (xs : List A) (k : ℕ) (d : A) (o : Option A) → o ≡ nth xs k → get_or xs k d ≡ unwrap_or o d
  get_or_nth xs k d o e = sym (unwrap_or-slice_get xs k d) ∙ ap (λ r. unwrap_or r d) (sym (e ∙ nth_is xs k))

pub cell_at_share : (net : Net) (w : ℕ) → w < 2 * net.inputs → None ≡ cell_at net w
cell_at_share net w h = rw (lt-ltb w (2 * net.inputs) h) refl

pub cell_at_cell : (net : Net) (w : ℕ) → 2 * net.inputs ≤ w → cell_at net w ≡ nth net.cells (w - 2 * net.inputs)
cell_at_cell net w h = rw (le-ltb w (2 * net.inputs) h) refl

pub cell_at_past : (net : Net) (w : ℕ) → net_wires net ≤ w → None ≡ cell_at net w
cell_at_past net w h = sym (cell_at_cell net w (omega arith) ∙ nth_past net.cells (w - 2 * net.inputs) (omega arith))

pub cell_at_own : (net : Net) (w : ℕ) → 2 * net.inputs ≤ w → w < net_wires net → cell_at net w ≡ Some (get_or net.cells (w - 2 * net.inputs) no_cell)
cell_at_own net w l h = cell_at_cell net w l ∙ nth_get_or net.cells (w - 2 * net.inputs) no_cell (omega arith)

pub wires_circuit : (net : Net) → net_wires net ≡ wire_count (circuit net)
wires_circuit net = ap (λ n. 2 * net.inputs + n) (sym (length-map net.cells driver))
