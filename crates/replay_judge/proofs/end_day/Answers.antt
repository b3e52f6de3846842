-- `replay_judge::end_day` meets its contract. By the part of the day. Assumes nothing.
use Rattle.replay_judge.proofs.Finished.{day_without_d, last_verdict, no_day, told_before}
use Rattle.replay_judge.proofs.end_day.Goals as goal

pub returns-then-f-clause-ends : goal.returns-then-f-clause-ends
returns-then-f-clause-ends c = search day_without_d

pub returns-else-f-clause-ends : goal.returns-else-f-clause-ends
returns-else-f-clause-ends c = search no_day

pub returns-in-Comparing : goal.returns-in-Comparing
returns-in-Comparing c = search last_verdict

pub returns-in-Differing : goal.returns-in-Differing
returns-in-Differing c = search told_before
