-- `replay_compare::compare_run` meets its contract. One byte after the other. Assumes nothing.
use Rattle.replay_compare.proofs.Runs.{Compared}
use Rattle.replay_compare.proofs.compare_run.Given as goal

abbrev pub invariant-loop-b : goal.invariant-loop-b
invariant-loop-b l = Compared l.fn.p l.out l.run l.q l.b-index
