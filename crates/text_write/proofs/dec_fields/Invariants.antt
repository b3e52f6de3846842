-- `text_write::dec_fields` meets its contract. The first fields are written. Assumes nothing.
use lib.ListN.{take}
use Rattle.text_digits.specs.Digits.{dec_field}
use Rattle.text_digits.specs.Wrote.{Writes}
use Rattle.text_write.specs.Lines.{joined}
use Rattle.text_write.proofs.dec_fields.Given as goal

abbrev pub invariant-loop-x : goal.invariant-loop-x
invariant-loop-x l = Writes l.initial.page (joined dec_field (take l.x-index l.numbers)) l.page
