-- `text_fields::read_fields` meets its contract. What is left to read comes to the same at each turn. Assumes nothing.
use lib.ListN.{length}
use Rattle.text_fields.proofs.Turn.{Left}
use Rattle.text_fields.proofs.read_fields.Given as goal

abbrev pub invariant-loop-value : goal.invariant-loop-value
invariant-loop-value l = Left l.form (length l.fn.values) l.value-index l.values l.s l.next l.from
