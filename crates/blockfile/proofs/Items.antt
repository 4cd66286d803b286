-- Bytes that are put item by item: entries, cells, pairs of wires.
use Rattle.std.proofs.Common.{◌≡◌, ℕ, ◌+◌, ◌-◌, ◌*◌, ◌<◌, ◌≤◌, List, [], ◌∷◌, ◌++◌, length, get_or, take, Some, sym, refl, ap, ◌∙◌, mul-zero, mul-suc, arith, length-append}
use Rattle.std.specs.List.{flat_map}
use Rattle.std.proofs.lemmas.List.{take_more, take_all, length-take-le, flat_map_more}
use Rattle.netlist.specs.declared.cell.Cell.{Cell}
use Rattle.netlist.specs.Cells.{no_cell}
use Rattle.netlist.specs.Nets.{Net, cell_at}
use Rattle.netlist.proofs.Places.{cell_at_own}
use Rattle.block.specs.Blocks.{Whole, net_part}
use Rattle.blockfile.specs.Format.{two, field, cell_bytes, cell_fields, pair_bytes}
use Rattle.blockfile.specs.Writing.{put_at}
use Rattle.blockfile.proofs.Placing.{put_more}

abbrev pub cell_item : Cell → List ℕ
cell_item x = field 3 (cell_bytes x)

abbrev pub pair_item : ℕ × ℕ → List ℕ
pair_item p = two p.0 ++ two p.1

pub cells_joined : (xs : List Cell) → flat_map cell_item xs ≡ cell_fields xs
cells_joined [] = refl
cells_joined (x ∷ xs) = ap (λ l. cell_item x ++ l) (cells_joined xs)

pub pairs_joined : (ps : List (ℕ × ℕ)) → flat_map pair_item ps ≡ pair_bytes ps
pairs_joined [] = refl
pairs_joined (p ∷ ps) = ap (λ l. pair_item p ++ l) (pairs_joined ps)

module _ {X : Type 0} (f : X → List ℕ) where
  length_joined : (size : ℕ) → ((x : X) → length (f x) ≡ size) → (xs : List X) → length (flat_map f xs) ≡ size * length xs
  length_joined size fixed [] = sym (mul-zero size)
  length_joined size fixed (x ∷ xs) =
      omega (arith, length-append (f x) (flat_map f xs), fixed x, length_joined size fixed xs, mul-suc size (length xs))

  -- one item more, at the place behind those before it
  pub put_item : (size : ℕ) → ((x : X) → length (f x) ≡ size) → (at k : ℕ) (xs : List X) (d : X) (item old out new : List ℕ) → k < length xs → at ≤ length old
      → out ≡ put_at at (flat_map f (take k xs)) old → item ≡ f (get_or xs k d) → new ≡ put_at (at + size * k) item out → new ≡ put_at at (flat_map f (take (k + 1) xs)) old
  put_item size fixed at k xs d item old out new h room inv ei e =
      let l = length_joined size fixed (take k xs) ∙ ap (λ n. size * n) (length-take-le k xs (omega arith)) in
      put_more at (at + size * k) (flat_map f (take k xs)) (f (get_or xs k d)) old out new room (ap (λ n. at + n) (sym l)) inv (e ∙ ap (λ ys. put_at (at + size * k) ys out) ei)
      ∙ ap (λ ys. put_at at ys old) (flat_map_more f [] (take k xs) (get_or xs k d) ∙ ap (flat_map f) (sym (take_more xs k d h)))

  pub put_all : (at k : ℕ) (xs : List X) (old out : List ℕ) → length xs ≤ k → out ≡ put_at at (flat_map f (take k xs)) old → out ≡ put_at at (flat_map f xs) old
  put_all at k xs old out h inv = inv ∙ ap (λ ys. put_at at (flat_map f ys) old) (take_all k xs h)

-- a cell by its number
pub cell_numbered : (net : Net) (b : Whole) (first k : ℕ) → net ≡ net_part b → first ≡ 2 * b.table.n → k < length b.cells → cell_at net (first + k) ≡ Some (get_or b.cells k no_cell)
cell_numbered net b first k part e h =
    let i : first + k - 2 * b.table.n ≡ k = omega arith in
    ap (λ n. cell_at n (first + k)) part ∙ cell_at_own (net_part b) (first + k) (omega arith) (omega arith) ∙ ap (λ j. Some (get_or b.cells j no_cell)) i
