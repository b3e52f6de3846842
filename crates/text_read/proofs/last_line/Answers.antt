-- `text_read::last_line` meets its contract. No byte of the line is there, or some. Assumes nothing.
use Rattle.text_read.proofs.Ending.{last, no_last}
use Rattle.text_read.proofs.last_line.Goals as goal

pub returns-then-k-eq0-clause-closes : goal.returns-then-k-eq0-clause-closes
returns-then-k-eq0-clause-closes c = search no_last

pub returns-clause-closes : goal.returns-clause-closes
returns-clause-closes c = search last
