use lib.ListN.{length, take}
use mathlib.Core.Path.{◌≡◌}
use Rattle.text_line.proofs.narrowed.Given as goal

abbrev pub invariant-loop-i : goal.invariant-loop-i
invariant-loop-i l = (take l.i l.narrow ≡ take l.i l.fn.row) × (length l.narrow ≡ length l.fn.row)
