-- The input shares of one domain of a block: what they settle to, what probes on them see, their register counts, and their bounds.
use Rattle.std.proofs.Common.{◌≡◌, ℕ, ◌*◌, ◌<◌, ◌≤◌, Bool, true, false, List, map, length, get_or, ap, ◌∙◌, arith}
use Rattle.std.specs.List.{AllByRecursion}
use Rattle.netlist.specs.Circuit.{union, seen, largest, register_counts}
use Rattle.isolation.specs.Patterns.{share_wire}
use Rattle.isolation.proofs.Shares.{share_below}
use Rattle.isolation.proofs.Inputs.{settled_own_shares, seen_share}
use Rattle.isolation.proofs.RegisterCounts.{register_count_share, largest_all}
use Rattle.isolation.proofs.Criteria.{Still, still_share}
use Rattle.block.specs.Blocks.{Table, Whole}
use Rattle.verdict.specs.Rules.{circuit_of, settled_at}
use Rattle.constructions.specs.Gates.{each, among, domain_shares}
use Rattle.constructions.proofs.Rows.{map_each, length_each, all_each}
use Rattle.constructions.proofs.Sets.{union_alone}

pub below_shares : (t : Table) (d : Bool) (w : ℕ) → 2 * t.n ≤ w → AllByRecursion (λ o. o < w) (domain_shares t d)
below_shares t d w h = all_each (λ o. o < w) t.n (share_wire d) (λ i l. let b = share_below d i t.n l in omega arith)

module _ (b : Whole) where
  module _ (x y masks : List Bool) (hx : length x ≡ b.table.n) (hy : length y ≡ b.table.n) where
    pub settled_0 : map (settled_at b x y masks) (domain_shares b.table false) ≡ x
    settled_0 = map_each b.table.n (share_wire false) (settled_at b x y masks) ∙ settled_own_shares (circuit_of b) false x y masks hx hy

    pub settled_1 : map (settled_at b x y masks) (domain_shares b.table true) ≡ y
    settled_1 = map_each b.table.n (share_wire true) (settled_at b x y masks) ∙ settled_own_shares (circuit_of b) true y x masks hy hx

  module _ (d : Bool) where
    pub seen_shares : union (map (seen (circuit_of b)) (domain_shares b.table d)) ≡ among (domain_shares b.table d)
    seen_shares =
        union_alone (seen (circuit_of b)) b.table.n (share_wire d) (λ i h. seen_share (circuit_of b) (share_wire d i) (share_below d i b.table.n h))

    pub counts_shares : 1 ≤ b.table.n → largest (map (λ w. get_or (register_counts (circuit_of b)) w 0) (domain_shares b.table d)) ≡ 0
    counts_shares h =
        ap largest (map_each b.table.n (share_wire d) (λ w. get_or (register_counts (circuit_of b)) w 0))
        ∙ largest_all 0 (each b.table.n (λ i. get_or (register_counts (circuit_of b)) (share_wire d i) 0))
        (omega (arith, length_each b.table.n (λ i. get_or (register_counts (circuit_of b)) (share_wire d i) 0)))
        (all_each (λ n. n ≡ 0) b.table.n (λ i. get_or (register_counts (circuit_of b)) (share_wire d i) 0)
        (λ i l. register_count_share (circuit_of b) (share_wire d i) (share_below d i b.table.n l)))

    pub still_shares : AllByRecursion (Still (circuit_of b) d) (domain_shares b.table d)
    still_shares = all_each (Still (circuit_of b) d) b.table.n (share_wire d) (λ i h. still_share (circuit_of b) d i h)
