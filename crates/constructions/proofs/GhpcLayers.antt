-- GHPC lies in layers.
use Rattle.std.proofs.Common.{◌+◌, ◌*◌, sym, refl, subst, arith}
use Rattle.netlist.specs.Circuit.{mask_count}
use Rattle.block.specs.Blocks.{Table, LawfulTable, net_part}
use Rattle.verdict.specs.Rules.{circuit_of}
use Rattle.constructions.specs.Gates.{argument_count, cell_gates}
use Rattle.constructions.specs.Ghpc.{breadth, output_cells, ghpc_of}
use Rattle.constructions.specs.Layers.{Layered}
use Rattle.constructions.proofs.ByNumber.{read_cell}
use Rattle.constructions.proofs.GhpcCounts.{masks_ghpc}
use Rattle.constructions.proofs.GhpcPlaces.{length_cells, at_outputs}
use Rattle.constructions.proofs.GhpcByNumber.{ghpc_by_wire}

module _ (t : Table) where
  layered : Layered t (ghpc_of t) t.m (breadth t) (output_cells t (cell_gates t))
  layered = record {
    table = refl;
    wires = omega (arith, length_cells t (cell_gates t));
    broad = omega arith;
    at_masks = λ k h. (ghpc_by_wire t).masks (2 * t.n + k) k refl h;
    at_selectors = λ k h. (ghpc_by_wire t).selectors (2 * t.n + t.m + k) k refl h;
    at_outputs = λ c r h b.
        read_cell (net_part (ghpc_of t)) (2 * t.n + t.m + 2 * argument_count t + (c * breadth t + r)) (t.m + (argument_count t * 2 + (c * breadth t + r)))
        (output_cells t (cell_gates t) c) r (omega arith) (at_outputs t (cell_gates t) c r h b);
  }

  pub layered_ghpc : LawfulTable t → Layered t (ghpc_of t) (mask_count (circuit_of (ghpc_of t))) (breadth t) (output_cells t (cell_gates t))
  layered_ghpc l = subst (λ k. Layered t (ghpc_of t) k (breadth t) (output_cells t (cell_gates t))) (sym (masks_ghpc t l)) layered
