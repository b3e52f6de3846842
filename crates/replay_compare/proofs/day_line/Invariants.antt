-- `replay_compare::day_line` meets its contract. The first fields are written after the day's number. Assumes nothing.
use lib.ListN.{take}
use Rattle.text_digits.specs.Digits.{dec_field}
use Rattle.text_digits.specs.Wrote.{Writes}
use Rattle.text_write.specs.Lines.{joined}
use Rattle.replay_compare.proofs.day_line.Given as goal

abbrev pub invariant-loop-x : goal.invariant-loop-x
invariant-loop-x l = Writes l.initial.page (joined dec_field (take l.x-index l.fields)) l.page
