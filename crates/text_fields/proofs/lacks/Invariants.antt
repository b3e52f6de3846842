-- `text_fields::lacks` meets its contract. What is left to look at comes to the same at each turn. Assumes nothing.
use Rattle.text_fields.proofs.Blocks.{Clear}
use Rattle.text_fields.proofs.lacks.Given as goal

abbrev pub invariant-loop-b : goal.invariant-loop-b
invariant-loop-b l = Clear l.end l.s l.b-index l.free
