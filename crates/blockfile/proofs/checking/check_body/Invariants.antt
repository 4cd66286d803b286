use Rattle.std.proofs.Common.{◌*◌, length}
use Rattle.blockfile.specs.Parts.{file_size}
use Rattle.blockfile.proofs.Checks.{BodyKept}
use Rattle.blockfile.proofs.checking.check_body.Given as goal

abbrev pub invariant-loop-rest : goal.invariant-loop-rest
invariant-loop-rest l =
    BodyKept (file_size l.fn.rest) (2 * l.n) l.m l.fn.rest.place l.fn.rest.bytes.now l.rest.place l.wire l.rest.bytes.now

abbrev pub decreases-loop-rest : goal.decreases-loop-rest
decreases-loop-rest l = length l.rest.bytes.now
