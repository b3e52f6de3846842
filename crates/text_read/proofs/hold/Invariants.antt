-- `text_read::hold` meets its contract. So many bytes of the run are held. Assumes nothing.
use lib.ListN.{take}
use Rattle.text_line.specs.Filled.{Appended}
use Rattle.text_read.proofs.hold.Given as goal

abbrev pub invariant-loop-b : goal.invariant-loop-b
invariant-loop-b l = Appended l.initial.line l.at (take l.b-index l.run) l.line l.end
