-- GHPC by wire number: which cell stands on a wire, by quotients and remainders.
use Rattle.std.specs.Prelude.{◌≡◌, ℕ, pred, ◌+◌, ◌*◌, ◌/◌, ◌%◌, ◌<◌, ◌≤◌, Some, None}
use Rattle.netlist.specs.Nets.{nth, cell_at}
use Rattle.block.specs.Blocks.{Table, net_part}
use Rattle.constructions.specs.Gates.{argument_count, cell_gates}
use Rattle.constructions.specs.Ghpc.{breadth, output_0, output_1, selector_cells, product_cells, join_cell, delay_cells, ghpc_of}

pub record ByWire (t : Table) : Type 0 where
  pub shares : (w : ℕ) → w < 2 * t.n → cell_at (net_part (ghpc_of t)) w ≡ None
  pub masks : (w k : ℕ) → w ≡ 2 * t.n + k → k < t.m → cell_at (net_part (ghpc_of t)) w ≡ Some (cell_gates t).mask
  pub selectors : (w k : ℕ) → w ≡ 2 * t.n + t.m + k → k < 2 * argument_count t
      → cell_at (net_part (ghpc_of t)) w ≡ nth (selector_cells t (cell_gates t) (k / 2)) (k % 2)
  pub products : (w k : ℕ) → w ≡ 2 * t.n + t.m + 2 * argument_count t + k → k < t.m * breadth t → k % breadth t < 5 * argument_count t
      → cell_at (net_part (ghpc_of t)) w ≡ nth (product_cells t (cell_gates t) (k / breadth t) (k % breadth t / 5)) (k % breadth t % 5)
  pub joins : (w k j : ℕ) → w ≡ 2 * t.n + t.m + 2 * argument_count t + k → k < t.m * breadth t → k % breadth t ≡ 5 * argument_count t + j → j < pred (argument_count t)
      → cell_at (net_part (ghpc_of t)) w ≡ Some (join_cell t (cell_gates t) (k / breadth t) j)
  pub delays : (w k j : ℕ) → w ≡ 2 * t.n + t.m + 2 * argument_count t + k → k < t.m * breadth t → k % breadth t ≡ 5 * argument_count t + pred (argument_count t) + j
      → cell_at (net_part (ghpc_of t)) w ≡ nth (delay_cells t (cell_gates t) (k / breadth t)) j
  pub past : (w : ℕ) → 2 * t.n + t.m + 2 * argument_count t + t.m * breadth t ≤ w → cell_at (net_part (ghpc_of t)) w ≡ None
  pub outputs : (c : ℕ) → c < t.m → nth (ghpc_of t).outputs c ≡ Some (output_0 t c, output_1 t c)
  pub no_output : (c : ℕ) → t.m ≤ c → nth (ghpc_of t).outputs c ≡ None
