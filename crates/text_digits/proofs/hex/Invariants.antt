-- `text_digits::hex` meets its contract. What was looked at comes to the same at each turn. Assumes nothing.
use Rattle.text_digits.proofs.Eight.{Looked}
use Rattle.text_digits.proofs.hex.Given as goal

abbrev pub invariant-loop-b : goal.invariant-loop-b
invariant-loop-b l = Looked l.s l.b-index l.n l.all
