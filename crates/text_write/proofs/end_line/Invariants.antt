-- `text_write::end_line` meets its contract. The first fields are written; then byte 10. Assumes nothing.
use lib.ListN.{take}
use Rattle.text_digits.specs.Digits.{hex_field}
use Rattle.text_digits.specs.Wrote.{Writes}
use Rattle.text_write.specs.Lines.{joined}
use Rattle.text_write.proofs.end_line.Given as goal

abbrev pub invariant-loop-x : goal.invariant-loop-x
invariant-loop-x l = Writes l.initial.page (joined hex_field (take l.x-index l.bits)) l.page
