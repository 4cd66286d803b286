use Rattle.std.proofs.Common.{arith}
use Rattle.ghpc.proofs.Looks.{share_there, share_past}
use Rattle.ghpc.proofs.gates.share.Goals as goal

pub returns-then-i-n : goal.returns-then-i-n
returns-then-i-n c = share_there c.args.n c.args.i c.args.domain c.from.result (omega arith) c.from.ensures

pub returns-else-i-n : goal.returns-else-i-n
returns-else-i-n c = share_past c.args.n c.args.i c.args.domain (omega arith)
