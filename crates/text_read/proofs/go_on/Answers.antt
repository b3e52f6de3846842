-- `text_read::go_on` meets its contract. The line is too long, or holds the run. Assumes nothing.
use Rattle.text_read.proofs.Going.{on_held, on_long}
use Rattle.text_read.proofs.go_on.Goals as goal

pub returns-then-k-run : goal.returns-then-k-run
returns-then-k-run c = search on_long

pub returns : goal.returns
returns c = search on_held
