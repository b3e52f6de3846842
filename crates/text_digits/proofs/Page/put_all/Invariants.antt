-- `text_digits::Page::put_all` meets its contract. The first bytes are written. Assumes nothing.
use lib.ListN.{take}
use Rattle.text_digits.specs.Wrote.{Writes}
use Rattle.text_digits.proofs.Page.put_all.Given as goal

abbrev pub invariant-loop-b : goal.invariant-loop-b
invariant-loop-b l = Writes l.initial.self (take l.b-index l.bytes) l.self
