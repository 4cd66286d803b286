-- The cells of GHPC_LL by wire number.
use Rattle.std.proofs.Common.{◌≡◌, ℕ, pred, ◌+◌, ◌*◌, ◌/◌, ◌%◌, ◌<◌, List, [], ◌∷◌, sym, ap, ◌∙◌, arith}
use lib.ListN.{get_elem?}
use Rattle.netlist.specs.declared.cell.Cell.{Cell}
use Rattle.netlist.specs.Nets.{nth, cell_at}
use Rattle.netlist.proofs.Places.{cell_at_share, cell_at_past, nth_past}
use Rattle.block.specs.Blocks.{Table, net_part}
use Rattle.constructions.specs.Gates.{argument_count, cell_gates}
use Rattle.constructions.specs.LowLatency.{breadth, output_0, output_1, outputs_of, selector_cells, product_cells, join_1, join_0, output_cells, low_latency_of}
use Rattle.constructions.specs.LowLatencyByWire.{ByWire}
use Rattle.constructions.proofs.Rows.{length_each, at_each, row_at}
use Rattle.constructions.proofs.ByNumber.{nth_same, read_cell}
use Rattle.constructions.proofs.LowPlaces.{length_cells, at_masks, at_selectors, at_outputs, at_products, at_joins_1, at_joins_0, at_last, last}

module _ (t : Table) where
  -- a wire of an output, by what the output has there
  in_output : (w k : ℕ) (ys : List Cell) (j : ℕ) → w ≡ 2 * t.n + t.m * argument_count t + 2 * argument_count t + k → k < t.m * breadth t
      → get_elem? (output_cells t (cell_gates t) (k / breadth t)) (k % breadth t) ≡ get_elem? ys j → cell_at (net_part (low_latency_of t)) w ≡ nth ys j
  in_output w k ys j e h s =
      let r = row_at t.m (breadth t) k (omega arith) h in
      read_cell (net_part (low_latency_of t)) w (t.m * argument_count t + (argument_count t * 2 + (k / breadth t * breadth t + k % breadth t))) ys j (omega (arith, r.2))
      (at_outputs t (cell_gates t) (k / breadth t) (k % breadth t) r.0 r.1 ∙ s)

  pub low_latency_by_wire : ByWire t
  low_latency_by_wire = record {
    shares = λ w h. sym (cell_at_share (net_part (low_latency_of t)) w h);
    masks = λ w k e h. read_cell (net_part (low_latency_of t)) w k ((cell_gates t).mask ∷ []) 0 e (at_masks t (cell_gates t) k h);
    selectors = λ w k e h.
        let r = row_at (argument_count t) 2 k (omega arith) (omega arith) in
        read_cell (net_part (low_latency_of t)) w (t.m * argument_count t + (k / 2 * 2 + k % 2)) (selector_cells t (cell_gates t) (k / 2)) (k % 2) (omega (arith, r.2))
        (at_selectors t (cell_gates t) (k / 2) (k % 2) r.0 r.1);
    products = λ w k e h b.
        let c = k / breadth t in
        let o = k % breadth t in
        let r = row_at (argument_count t) 5 o (omega arith) (omega arith) in
        in_output w k (product_cells t (cell_gates t) c (o / 5)) (o % 5) e h
        (ap (get_elem? (output_cells t (cell_gates t) c)) (sym r.2) ∙ at_products t (cell_gates t) c (o / 5) (o % 5) r.0 r.1);
    joins_1 = λ w k j e h b i.
        let c = k / breadth t in
        let z : k % breadth t ≡ argument_count t * 5 + j = omega arith in
        in_output w k (join_1 t (cell_gates t) c j ∷ []) 0 e h (ap (get_elem? (output_cells t (cell_gates t) c)) z ∙ at_joins_1 t (cell_gates t) c j i);
    joins_0 = λ w k j e h b i.
        let c = k / breadth t in
        let z : k % breadth t ≡ argument_count t * 5 + (pred (argument_count t) + j) = omega arith in
        in_output w k (join_0 t (cell_gates t) c j ∷ []) 0 e h (ap (get_elem? (output_cells t (cell_gates t) c)) z ∙ at_joins_0 t (cell_gates t) c j i);
    last = λ w k e h b.
        let c = k / breadth t in
        let z : k % breadth t ≡ argument_count t * 5 + (pred (argument_count t) + (pred (argument_count t) + 0)) = omega arith in
        in_output w k (last t (cell_gates t) c) 0 e h (ap (get_elem? (output_cells t (cell_gates t) c)) z ∙ at_last t (cell_gates t) c);
    past = λ w h. sym (cell_at_past (net_part (low_latency_of t)) w (omega (arith, length_cells t (cell_gates t))));
    outputs = λ c h. nth_same (low_latency_of t).outputs ((output_0 t c, output_1 t c) ∷ []) c 0 (at_each t.m (outputs_of t) c h);
    no_output = λ c h. nth_past (low_latency_of t).outputs c (omega (arith, length_each t.m (outputs_of t)));
  }
