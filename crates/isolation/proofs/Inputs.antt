-- The input shares of a circuit: what they settle to, and what probes on them see.
use Rattle.std.proofs.Common.{◌≡◌, ℕ, ◌<◌, Bool, false, List, map, length, get_or, sym, ap, ◌∙◌, zero-add, arith}
use Rattle.std.specs.List.{range_with_len}
use Rattle.std.proofs.lemmas.List.FromFn.{fill_by_all}
use Rattle.netlist.specs.Circuit.{Circuit, share_count, settled, no_wire, alone, alone_from, probes, seen}
use Rattle.isolation.specs.Patterns.{shares, share_wire}
use Rattle.isolation.proofs.Carries.{carry_before}
use Rattle.isolation.proofs.Determined.{length_alone_from, get_or_alone_from}
use Rattle.isolation.proofs.Shares.{settled_own_share}

-- all shares of one domain
pub settled_own_shares : (c : Circuit) (d : Bool) (x y m : List Bool) → length x ≡ c.inputs → length y ≡ c.inputs
    → map (λ i. get_or (settled c (shares d x y) m) (share_wire d i) false) (range_with_len 0 c.inputs) ≡ x
settled_own_shares c d x y m hx hy =
    sym (fill_by_all (λ i. get_or (settled c (shares d x y) m) (share_wire d i) false) x c.inputs false hx (λ i h. sym (settled_own_share c d x y m hx hy i h)))

pub seen_share : (c : Circuit) (w : ℕ) → w < share_count c → seen c w ≡ alone w
seen_share c w h =
    carry_before probes c.drivers 0 (alone_from 0 (share_count c)) w no_wire (omega (arith, length_alone_from 0 (share_count c)))
    ∙ get_or_alone_from 0 (share_count c) w h ∙ ap alone (zero-add w)
