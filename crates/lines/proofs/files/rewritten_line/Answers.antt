use Rattle.std.proofs.Common.{◌≡◌, ap, ◌∙◌, length, arith}
use Rattle.blockfile.specs.Format.{file_of}
use Rattle.blockfile.specs.Laws.{Bytes}
use Rattle.lines.proofs.Again.{file_again, written_again, no_refusal}
use Rattle.lines.proofs.files.rewritten_line.Goals as goal

pub returns-in-Ok : goal.returns-in-Ok
returns-in-Ok c h =
    let bytes = c.args.bytes.now in
    let small : Bytes bytes = λ k _. omega (arith, c.type_inv.bytes k) in
    let same = ap file_of c.view.ensures ∙ file_again bytes small h in
    let old : length c.deref_mut.result.now ≡ length bytes = omega (arith, c.deref_mut.ensures.len, c.in_ok-out.ensures.len) in
    let long : c.in_ok-out.out.len ≡ length bytes = omega (arith, c.in_ok-out.ensures.len) in
    c.compared.ensures
    (c.deref.ensures.value
    ∙ c.truncate.ensures.items
    ∙ written_again bytes _ _ _ _ _ c.in-Ok.length c.in_ok-out.out.len same old long c.write.ensures.answer c.write.ensures.memory c.in-Ok.is)

pub returns : goal.returns
returns c h =
    let bytes = c.args.bytes.now in
    let small : Bytes bytes = λ k _. omega (arith, c.type_inv.bytes k) in
    let same = ap file_of c.view.ensures ∙ file_again bytes small h in
    let old : length c.deref_mut.result.now ≡ length bytes = omega (arith, c.deref_mut.ensures.len, c.in_ok-out.ensures.len) in
    absurd (no_refusal bytes _ _ _ _ same old c.write.ensures.answer c.in-Err.is)
