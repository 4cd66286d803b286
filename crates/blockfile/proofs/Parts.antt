-- A part of the bytes, by its places in all of them.
use Rattle.std.proofs.Common.{◌≡◌, ℕ, suc, ◌+◌, ◌<◌, List, get_or, take, drop, ap, ◌∙◌, add-suc, arith}
use Rattle.std.proofs.lemmas.List.{get_or-take, get_or-drop}
use Rattle.blockfile.specs.Reading.{pair_at}

pub get_or_part : (bs : List ℕ) (at size i : ℕ) → i < size → get_or (take size (drop at bs)) i 0 ≡ get_or bs (at + i) 0
get_or_part bs at size i h = get_or-take size (drop at bs) i 0 h ∙ get_or-drop at bs i 0

pub pair_part : (bs : List ℕ) (at size i : ℕ) → suc i < size → pair_at (take size (drop at bs)) i ≡ pair_at bs (at + i)
pair_part bs at size i h =
    let hi = get_or_part bs at size i (omega arith) in
    let lo = get_or_part bs at size (suc i) h ∙ ap (λ k. get_or bs k 0) (add-suc at i) in
    cc
