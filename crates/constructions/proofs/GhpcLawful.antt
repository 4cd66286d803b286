-- The GHPC block of every lawful table is lawful.
use Rattle.std.proofs.Common.{ℕ, zero, suc, pred, ◌+◌, ◌*◌, ◌<◌, true, false, eqb, ap, arith}
use lib.Bits.{bit_xor}
use Rattle.std.proofs.lemmas.Nat.{mul-add-lt}
use Rattle.netlist.specs.declared.cell.Cell.{Cell}
use Rattle.netlist.specs.Cells.{Fits}
use Rattle.netlist.specs.Nets.{net_wires, CellsFit}
use Rattle.netlist.proofs.Places.{wires_circuit}
use Rattle.isolation.proofs.Shares.{share_below}
use Rattle.block.specs.Blocks.{Table, LawfulTable, LawfulBlock, net_part, output_at}
use Rattle.constructions.specs.Gates.{argument_count, cell_gates}
use Rattle.constructions.specs.Ghpc.{mask, decoded, selector, breadth, start, entry, masked, held, product, term, partial, delayed, output_0, outputs_of, cells, ghpc_of}
use Rattle.constructions.proofs.Numbers.{some_arguments}
use Rattle.constructions.proofs.Rows.{length_each, get_or_each}
use Rattle.constructions.proofs.Standing.{Stands}
use Rattle.constructions.proofs.Fits.{Fitting, fitting_by, cells_fit, fits_mask, fits_reg, fits_xor, fits_and, fits_look}
use Rattle.constructions.proofs.GhpcPlaces.{length_cells, stands_mask, stands_decoded, stands_selector, stands_entry, stands_masked, stands_held, stands_product, stands_term, stands_partial, stands_delayed, stands_output_0}
use Rattle.constructions.proofs.GhpcEquations.{partial_rises}
use Rattle.constructions.proofs.GhpcCounts.{few_wires}
use Rattle.constructions.proofs.GhpcWires.{Classes, each_wire}

module _ (t : Table) (l : LawfulTable t) where
  fits_on : (w : ℕ) (x : Cell) → Stands (2 * t.n) (cells t (cell_gates t)) w x → Fits w x → Fitting t.n (cells t (cell_gates t)) w
  fits_on = fitting_by t.n (cells t (cell_gates t))

  fitting : Classes t (Fitting t.n (cells t (cell_gates t)))
  fitting = record {
    of_share = λ d i h b. absurd (omega (arith, share_below d i t.n h));
    of_mask = λ c h. fits_on (mask t c) (cell_gates t).mask (stands_mask t (cell_gates t) c h) (fits_mask t (mask t c));
    of_decoded = λ i h. fits_on (decoded t i) ((cell_gates t).look true (λ a. eqb a i)) (stands_decoded t (cell_gates t) i h)
        (fits_look t l (decoded t i) true (λ a. eqb a i) (omega arith));
    of_selector = λ i h. fits_on (selector t i) ((cell_gates t).reg (decoded t i)) (stands_selector t (cell_gates t) i h)
        (fits_reg t (selector t i) (decoded t i) (omega arith));
    of_entry = λ c i h b. fits_on (entry t c i) ((cell_gates t).look false (λ a. output_at t c (bit_xor a i))) (stands_entry t (cell_gates t) c h i b)
        (fits_look t l (entry t c i) false (λ a. output_at t c (bit_xor a i)) (omega arith));
    of_masked = λ c i h b. fits_on (masked t c i) ((cell_gates t).xor (entry t c i) (mask t c)) (stands_masked t (cell_gates t) c h i b)
        (fits_xor t (masked t c i) (entry t c i) (mask t c) (omega arith) (omega arith));
    of_held = λ c i h b. fits_on (held t c i) ((cell_gates t).reg (masked t c i)) (stands_held t (cell_gates t) c h i b)
        (fits_reg t (held t c i) (masked t c i) (omega arith));
    of_product = λ c i h b. fits_on (product t c i) ((cell_gates t).and (selector t i) (held t c i)) (stands_product t (cell_gates t) c h i b)
        (fits_and t (product t c i) (selector t i) (held t c i) (omega arith) (omega arith));
    of_term = λ c i h b. fits_on (term t c i) ((cell_gates t).reg (product t c i)) (stands_term t (cell_gates t) c h i b)
        (fits_reg t (term t c i) (product t c i) (omega arith));
    of_partial = λ c j h b. fits_on (partial t c (suc j)) ((cell_gates t).xor (partial t c j) (term t c (suc j))) (stands_partial t (cell_gates t) c h j b)
        (fits_xor t (partial t c (suc j)) (partial t c j) (term t c (suc j)) (partial_rises t c j b) (omega arith));
    of_delayed = λ c h. fits_on (delayed t c) ((cell_gates t).reg (mask t c)) (stands_delayed t (cell_gates t) c h)
        (fits_reg t (delayed t c) (mask t c) (omega arith));
    of_output_0 = λ c h. fits_on (output_0 t c) ((cell_gates t).reg (delayed t c)) (stands_output_0 t (cell_gates t) c h)
        (fits_reg t (output_0 t c) (delayed t c) (omega arith));
  }

  fit : CellsFit t.n (cells t (cell_gates t))
  fit =
      cells_fit t.n (cells t (cell_gates t))
      (λ w h. each_wire t (Fitting t.n (cells t (cell_gates t))) fitting w (omega (arith, length_cells t (cell_gates t))))

  below : (c r : ℕ) → c < t.m → r < breadth t → start t c + r < net_wires (net_part (ghpc_of t))
  below c r h b = omega (arith, mul-add-lt c (breadth t) r t.m h b, length_cells t (cell_gates t))

  below_partial : (c j : ℕ) → c < t.m → j < argument_count t → partial t c j < net_wires (net_part (ghpc_of t))
  below_partial c zero h b = let k = below c 4 h (omega (arith, some_arguments t)) in omega arith
  below_partial c (suc j) h b = let k = below c (5 * argument_count t + j) h (omega arith) in omega arith

  pub lawful_ghpc : LawfulBlock (ghpc_of t)
  lawful_ghpc = record {
    table = l;
    net = record { some = l.some_inputs; few = omega (arith, l.few_inputs); size = omega (arith, wires_circuit (net_part (ghpc_of t)), few_wires t l); fit = fit };
    complete = length_each t.m (outputs_of t);
    zeroth = λ c h.
        let e = ap (λ (o : ℕ × ℕ). o.0) (get_or_each t.m (outputs_of t) c (0, 0) h) in
        let k = below c (5 * argument_count t + pred (argument_count t) + 1) h (omega (arith, some_arguments t)) in
        omega arith;
    first = λ c h.
        let e = ap (λ (o : ℕ × ℕ). o.1) (get_or_each t.m (outputs_of t) c (0, 0) h) in
        let k = below_partial c (pred (argument_count t)) h (omega (arith, some_arguments t)) in
        omega arith;
  }
