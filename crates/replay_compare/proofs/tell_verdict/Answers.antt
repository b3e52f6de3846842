-- `replay_compare::tell_verdict` meets its contract. The output is the same, or a line differs. Assumes nothing.
use Rattle.replay_days.specs.Judged.{verdict}
use Rattle.replay_compare.proofs.Cases.{two_fields}
use Rattle.replay_compare.proofs.tell_verdict.Goals as goal

pub returns-in-Some : goal.returns-in-Some
unfolding verdict
returns-in-Some c = rw c.in-Some.is (two_fields _ _ _ c.day_line.ensures)
