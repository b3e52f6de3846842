-- `replay_judge::end_comparing` meets its contract. The Z, the output's next line, a line that differs. Assumes nothing.
use Rattle.replay_judge.proofs.LineEnd.{next_ends, other_ends, z_ends}
use Rattle.replay_judge.proofs.end_comparing.Goals as goal

pub returns-then-holds_only : goal.returns-then-holds_only
returns-then-holds_only c = search z_ends

pub returns-in-Some : goal.returns-in-Some
returns-in-Some c = search next_ends

pub returns-in-None : goal.returns-in-None
returns-in-None c = search other_ends
