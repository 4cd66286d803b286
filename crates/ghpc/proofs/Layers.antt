-- Reading a block in layers by wire number.
use Rattle.std.proofs.Common.{◌≡◌, ℕ, ◌+◌, ◌-◌, ◌*◌, ◌/◌, ◌%◌, ◌<◌, ◌≤◌, List, Some, None, sym, ap, ◌∙◌, arith}
use Rattle.std.proofs.Math.Nat.{le-div_iff_mul-le, div-add-mod'}
use Rattle.netlist.specs.declared.cell.Cell.{Cell}
use Rattle.netlist.specs.Nets.{nth, cell_at}
use Rattle.netlist.proofs.Places.{cell_at_share, cell_at_past}
use Rattle.block.specs.Blocks.{Table, Whole, LawfulBlock, net_part}
use Rattle.constructions.specs.Gates.{cell_gates}
use Rattle.constructions.specs.Layers.{selecting_cells, selected_cells, first_selector, first_output, Layered}

module _ {t : Table} {b : Whole} {masks breadth : ℕ} {cells : ℕ → List Cell} (y : Layered t b masks breadth cells) (l : LawfulBlock b) where
  pub few_wires : first_output t masks + t.m * breadth ≤ 4096
  few_wires = omega (arith, l.net.size, y.wires)

  pub on_share : (w : ℕ) → w < 2 * t.n → None ≡ cell_at (net_part b) w
  on_share w h = cell_at_share (net_part b) w (omega (arith, ap (λ (u : Table). u.n) y.table))

  pub on_mask : (w : ℕ) → 2 * t.n ≤ w → w < first_selector t masks → Some (cell_gates t).mask ≡ cell_at (net_part b) w
  on_mask w h k =
      let e : 2 * t.n + (w - 2 * t.n) ≡ w = omega arith in
      sym (y.at_masks (w - 2 * t.n) (omega arith)) ∙ ap (cell_at (net_part b)) e

  pub on_selector : (w s : ℕ) → s ≡ first_selector t masks → s ≤ w → w < first_output t masks
      → nth (selecting_cells t s ((w - s) / 2)) ((w - s) % 2) ≡ cell_at (net_part b) w
  on_selector w s f h k =
      let e : first_selector t masks + (w - s) ≡ w = omega arith in
      ap (λ v. nth (selecting_cells t v ((w - s) / 2)) ((w - s) % 2)) f
      ∙ sym (y.at_selectors (w - s) (omega arith)) ∙ ap (cell_at (net_part b)) e

  module _ (k w : ℕ) (e : w ≡ breadth) where
    pub some : 0 < w
    some = omega (arith, y.broad)

    pub within : k / w < t.m → k % w < breadth
    within h = let z = some in omega arith

    pub on_output : k / w < t.m → nth (cells (k / w)) (k % w) ≡ cell_at (net_part b) (first_output t masks + k)
    on_output h =
        let p : k / w * w + k % w ≡ k = div-add-mod' k w in
        let q : k / w * w ≡ k / w * breadth = ap (λ x. k / w * x) e in
        let z : first_output t masks + (k / w * breadth + k % w) ≡ first_output t masks + k = omega arith in
        sym (y.at_outputs (k / w) (k % w) h (within h)) ∙ ap (cell_at (net_part b)) z

    pub past : t.m ≤ k / w → None ≡ cell_at (net_part b) (first_output t masks + k)
    past h =
        let p : t.m * w ≤ k = (le-div_iff_mul-le some).0 h in
        let q : t.m * w ≡ t.m * breadth = ap (λ x. t.m * x) e in
        cell_at_past (net_part b) (first_output t masks + k) (omega (arith, y.wires))

-- the same cells from equal numbers
pub selected_same : (t : Table) (c i k : ℕ) (entry entry' mask mask' decoded decoded' : ℕ) (last last' : Cell) → entry ≡ entry' → mask ≡ mask' → decoded ≡ decoded' → last ≡ last'
    → nth (selected_cells t c i entry mask decoded last) k ≡ nth (selected_cells t c i entry' mask' decoded' last') k
selected_same t c i k entry entry' mask mask' decoded decoded' last last' e m d l = cc
