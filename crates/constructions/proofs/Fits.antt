-- Which wires each gate may drive, and lists of cells that fit.
use Rattle.std.proofs.Common.{◌≡◌, ℕ, zero, suc, ◌+◌, ◌-◌, ◌*◌, ◌^◌, ◌<◌, ◌≤◌, Bool, List, length, get_or, sym, subst, arith}
use Rattle.netlist.specs.declared.cell.Cell.{Cell}
use Rattle.netlist.specs.Cells.{Fits, no_cell}
use Rattle.netlist.specs.Nets.{CellsFit}
use Rattle.isolation.specs.Patterns.{share_wire}
use Rattle.isolation.proofs.Shares.{share_below}
use Rattle.block.specs.Blocks.{Table, LawfulTable}
use Rattle.constructions.specs.Gates.{each, table_of, look_kind, cell_of, cell_gates}
use Rattle.constructions.proofs.Numbers.{table_below}
use Rattle.constructions.proofs.Standing.{Stands, get_or_stands}

module _ (t : Table) (w : ℕ) where
  pub fits_mask : Fits w (cell_gates t).mask
  fits_mask = (omega arith, omega arith, omega arith, omega arith, omega arith)

  pub fits_reg : (v : ℕ) → v < w → Fits w ((cell_gates t).reg v)
  fits_reg v h = (omega arith, h, omega arith, omega arith, omega arith)

  pub fits_xor : (u v : ℕ) → u < w → v < w → Fits w ((cell_gates t).xor u v)
  fits_xor u v h k = (omega arith, h, k, omega arith, omega arith)

  pub fits_and : (u v : ℕ) → u < w → v < w → Fits w ((cell_gates t).and u v)
  fits_and u v h k = (omega arith, h, k, omega arith, omega arith)

-- a look-up over the shares of one domain, for each number of inputs
look_fits : (n table w : ℕ) (d : Bool) → 1 ≤ n → n ≤ 4 → table < 2 ^ (2 ^ n) → ((i : ℕ) → i < n → share_wire d i < w)
    → Fits w (cell_of (look_kind n) table (each n (share_wire d)))
look_fits zero table w d some few h b = absurd (omega arith)
look_fits (suc zero) table w d some few h b = (h, b 0 (omega arith), omega arith, omega arith, omega arith)
look_fits (suc (suc zero)) table w d some few h b = (h, b 0 (omega arith), b 1 (omega arith), omega arith, omega arith)
look_fits (suc (suc (suc zero))) table w d some few h b = (h, b 0 (omega arith), b 1 (omega arith), b 2 (omega arith), omega arith)
look_fits (suc (suc (suc (suc zero)))) table w d some few h b = (h, b 0 (omega arith), b 1 (omega arith), b 2 (omega arith), b 3 (omega arith))
look_fits (suc (suc (suc (suc (suc n))))) table w d some few h b = absurd (omega arith)

pub fits_look : (t : Table) → LawfulTable t → (w : ℕ) (d : Bool) (f : ℕ → Bool) → 2 * t.n ≤ w → Fits w ((cell_gates t).look d f)
fits_look t l w d f h =
    look_fits t.n (table_of t f) w d l.some_inputs l.few_inputs (table_below t f) (λ i b. let s = share_below d i t.n b in omega arith)

-- a list of cells fits where each of its wires has a cell that may drive it
module _ (p : ℕ) (cells : List Cell) where
  abbrev pub Fitting : ℕ → Type 0
  Fitting w = 2 * p ≤ w → Fits w (get_or cells (w - 2 * p) no_cell)

  pub fitting_by : (w : ℕ) (x : Cell) → Stands (2 * p) cells w x → Fits w x → Fitting w
  fitting_by w x s fits h = subst (Fits w) (sym (get_or_stands (2 * p) cells w x no_cell s)) fits

  pub cells_fit : ((w : ℕ) → w < 2 * p + length cells → Fitting w) → CellsFit p cells
  cells_fit fitting k h =
      let e : 2 * p + k - 2 * p ≡ k = omega arith in
      subst (λ j. Fits (2 * p + k) (get_or cells j no_cell)) e (fitting (2 * p + k) (omega arith) (omega arith))
