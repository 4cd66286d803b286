use Rattle.blockfile.proofs.Accepted.{accepted, accepted_lawful, accepted_read}
use Rattle.blockfile.proofs.file_view.viewing.FileViewTryFromRefSliceU8.try_from.Goals as goal

pub invariant_of-result : goal.invariant_of-result
invariant_of-result c =
    let e = accepted c.args.bytes.now _ c.in_ok-check.ensures.answer in
    record { accepted = e; whole = accepted_lawful c.args.bytes.now e }

pub returns : goal.returns
returns c = accepted_read c.args.bytes.now (accepted c.args.bytes.now _ c.in_ok-check.ensures.answer)
