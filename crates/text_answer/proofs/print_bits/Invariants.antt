-- `text_answer::print_bits` meets its contract. The first i numbers are printed. Assumes nothing.
use mathlib.Core.Path.{◌≡◌}
use lib.ListN.{length}
use Rattle.text_answer.proofs.Floating.{Printing}
use Rattle.text_answer.proofs.print_bits.Given as goal

abbrev pub invariant-loop-i : goal.invariant-loop-i
invariant-loop-i l = (length l.kept ≡ length l.initial.kept) × Printing l.values l.initial.kept l.i l.kept
