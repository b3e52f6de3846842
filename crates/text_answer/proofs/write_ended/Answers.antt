-- `text_answer::write_ended` meets its contract. A refused call, and one that was done. Assumes nothing.
use Rattle.text_answer.proofs.Called.{done_written, refused_written}
use Rattle.text_answer.proofs.write_ended.Goals as goal

pub returns-in-Err-clause-wrote : goal.returns-in-Err-clause-wrote
returns-in-Err-clause-wrote c = search refused_written

pub returns-in-Ok-clause-wrote : goal.returns-in-Ok-clause-wrote
returns-in-Ok-clause-wrote c = search done_written
