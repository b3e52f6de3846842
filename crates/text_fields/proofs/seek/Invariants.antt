-- `text_fields::seek` meets its contract. No byte that was passed is the one that is looked for. Assumes nothing.
use Rattle.text_fields.proofs.Until.{On}
use Rattle.text_fields.proofs.seek.Given as goal

abbrev pub invariant-loop-i : goal.invariant-loop-i
invariant-loop-i l = On l.s l.at l.end l.i
