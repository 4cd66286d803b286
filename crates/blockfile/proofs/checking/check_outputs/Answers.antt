use Rattle.std.proofs.Common.{◌≡◌, ℕ, ◌+◌, ◌*◌, ◌/◌, ◌%◌, List, [], length, get_or, sym, ap, ◌∙◌, arith}
use Rattle.std.proofs.lemmas.List.{drop_all}
use Rattle.std.proofs.lemmas.Result.{err_from_is_err_and}
use Rattle.std.specs.Simd.{first_chunks}
use Rattle.blockfile.specs.Reading.{in_bounds, pair_at, pairs_from, pair_bounds}
use Rattle.blockfile.proofs.Wires.{wire_bounds, pairs_by_wires, wire_out}
use Rattle.blockfile.proofs.checking.check_outputs.Goals as goal

-- the tests of the pairs are those of the numbers
same : (w at : ℕ) (bs : List ℕ) (numbers : List (List ℕ)) → length bs % 4 ≡ 0 → numbers ≡ first_chunks 2 (length bs / 2) bs
    → in_bounds (wire_bounds w at numbers) ≡ in_bounds (pair_bounds w at (pairs_from (length bs / 4) 0 bs))
same w at bs numbers whole e =
    ap (λ ns. in_bounds (wire_bounds w at ns)) e ∙ sym (ap in_bounds (pairs_by_wires w at (length bs / 4) (length bs / 2) bs (omega arith) (omega arith)))

pub returns-in_err-within : goal.returns-in_err-within
returns-in_err-within c =
    let o = c.args.outputs in
    let k = c.loop-k.k in
    let p = err_from_is_err_and c.from_residual.result c.from_residual.ensures.1 in
    let read : c.from.result ≡ pair_at (get_or c.as_chunks.result.0.now k []) 0 = omega arith in
    rw (p.1, p.2)
    (wire_out c.args.wires (o.place + 2 * k) c.from.result k c.as_chunks.result.0.now _ (omega arith) read c.in_err-within.ensures
    ∙ sym c.loop-k.invariant ∙ same c.args.wires o.place o.bytes.now c.as_chunks.result.0.now c.requires c.as_chunks.ensures.front)

pub returns : goal.returns
returns c =
    let o = c.args.outputs in
    let k = c.loop-k.k in
    let numbers = c.as_chunks.result.0.now in
    sym (c.loop-k.invariant ∙ ap (λ ns. in_bounds (wire_bounds c.args.wires (o.place + 2 * k) ns)) (drop_all k numbers (omega arith)))
    ∙ same c.args.wires o.place o.bytes.now numbers c.requires c.as_chunks.ensures.front
