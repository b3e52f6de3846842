-- `text_answer::write_lines` meets its contract. Four parts one after the other. Assumes nothing.
use Rattle.text_answer.proofs.Called.{all_lines}
use Rattle.text_answer.proofs.write_lines.Goals as goal

pub returns : goal.returns
returns c = search all_lines
