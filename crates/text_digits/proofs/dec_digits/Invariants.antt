-- `text_digits::dec_digits` meets its contract. What is left to read comes to the same at each turn. Assumes nothing.
use Prim.Native.Nat.{◌≤◌}
use Rattle.text_digits.specs.Digits.{number_from}
use Rattle.text_digits.proofs.Turn.{Left}
use Rattle.text_digits.proofs.dec_digits.Given as goal

abbrev pub invariant-loop-b : goal.invariant-loop-b
invariant-loop-b l = (l.n ≤ 65535) × Left 10 65535 l.n l.b-index l.s (number_from 10 65535 0 l.s)
