use Rattle.std.proofs.Common.{eqb, sym, ap, ◌∙◌}
use Rattle.value.proofs.LaneLaws.{lane_digit, ones_lane}
use Rattle.value.proofs.lanes.leaf.Goals as goal

pub returns-then-table_bit-eq1 : goal.returns-then-table_bit-eq1
returns-then-table_bit-eq1 c j h = ones_lane j h ∙ sym (ap (λ n. eqb n 1) (sym (lane_digit c.args.i c.args.table) ∙ sym c.table_bit.ensures ∙ c.if-table_bit-eq1.true))
