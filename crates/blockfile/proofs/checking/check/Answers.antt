use Rattle.blockfile.proofs.Blocks.{read_is_written, read_is_lawful, one_answer_each}
use Rattle.blockfile.proofs.checking.check.Goals as goal

pub returns : goal.returns
returns c = record { answer = c.check_fields.ensures; written = read_is_written; lawful = read_is_lawful; one = one_answer_each }
