-- `replay_judge::end_line` meets its contract. By the part of the day. Assumes nothing.
use Rattle.replay_judge.proofs.LineEnd.{comparing_line, differing_line, input_line}
use Rattle.replay_judge.proofs.end_line.Goals as goal

pub returns-in-Input : goal.returns-in-Input
returns-in-Input c = search input_line

pub returns-in-Comparing : goal.returns-in-Comparing
returns-in-Comparing c = search comparing_line

pub returns-in-Differing : goal.returns-in-Differing
returns-in-Differing c = search differing_line
