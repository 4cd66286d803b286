use Rattle.std.proofs.Common.{refl, ◌∙◌, arith}
use Rattle.blockfile.proofs.Numbers.{two_of_bytes}
use Rattle.blockfile.proofs.puts.cell_field.Goals as goal

pub returns : goal.returns
returns c =
    let x = c.args.x in
    let t = c.to_be_bytes.ensures ∙ two_of_bytes x.table (omega arith) in
    let a = c.to_be_bytes-2.ensures ∙ two_of_bytes x.a (omega arith) in
    let b = c.to_be_bytes-3.ensures ∙ two_of_bytes x.b (omega arith) in
    let e = c.to_be_bytes-4.ensures ∙ two_of_bytes x.c (omega arith) in
    let d = c.to_be_bytes-5.ensures ∙ two_of_bytes x.d (omega arith) in
    rw (c.put-6.ensures, c.put-5.ensures, c.put-4.ensures, c.put-3.ensures, c.put-2.ensures, c.put.ensures, c.from.ensures, t, a, b, e, d) refl
