use Rattle.std.proofs.Common.{refl}
use Rattle.blockfile.proofs.examples.worked_files.Goals as goal

pub returns : goal.returns
returns c = record { count = refl; hold = record { files = (refl, (refl, (refl, (refl, (refl, (refl, (refl, (refl, (refl, (refl, (refl, (refl, (refl, (refl, (refl, (refl, (refl, (refl, tt)))))))))))))))))); identity = refl } }
