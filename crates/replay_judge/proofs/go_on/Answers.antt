-- `replay_judge::go_on` meets its contract. By the part of the day. Assumes nothing.
use Rattle.replay_judge.proofs.GoingOn.{comparing_on, differing_on, input_on}
use Rattle.replay_judge.proofs.go_on.Goals as goal

pub returns-in-Input : goal.returns-in-Input
returns-in-Input c = search input_on

pub returns-in-Comparing : goal.returns-in-Comparing
returns-in-Comparing c = search comparing_on

pub returns-in-Differing : goal.returns-in-Differing
returns-in-Differing c = search differing_on
