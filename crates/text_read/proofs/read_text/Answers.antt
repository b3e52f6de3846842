-- `text_read::read_text` meets its contract. Assumes nothing.
use Rattle.text_read.proofs.Going.{begins}
use Rattle.text_read.proofs.Whole.{read_whole}
use Rattle.text_read.proofs.read_text.Goals as goal

pub returns-clause-whole : goal.returns-clause-whole
returns-clause-whole c = read_whole _ (rw c.begin.ensures begins) c.portion-k.ensures.takes c.end.ensures.ends
