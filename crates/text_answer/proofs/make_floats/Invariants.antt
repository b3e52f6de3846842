-- `text_answer::make_floats` meets its contract. The floats from number i on are still to be stored. Assumes nothing.
use mathlib.Core.Path.{◌≡◌}
use lib.ListN.{length}
use Rattle.text_output.specs.Answer.{floats_of}
use Rattle.text_answer.proofs.Floating.{Left}
use Rattle.text_answer.proofs.make_floats.Given as goal

abbrev pub invariant-loop-i : goal.invariant-loop-i
invariant-loop-i l = (length l.values ≡ length l.initial.values) × Left l.values l.bits l.i (floats_of l.bits)
