-- `text_fields::run_end` meets its contract. No byte that was passed is the one that is looked for. Assumes nothing.
use Rattle.text_fields.proofs.Blocks.{Come}
use Rattle.text_fields.proofs.run_end.Given as goal

abbrev pub invariant-loop-block : goal.invariant-loop-block
invariant-loop-block l = Come l.s l.at l.end l.i l.block-iterator
