-- `replay_judge::feed_run` meets its contract. The line may be the end of the input; a D was held back before it; or neither. Assumes nothing.
use Rattle.replay_judge.proofs.Following.{back, with_d, without_d}
use Rattle.replay_judge.proofs.feed_run.Goals as goal

pub returns-then-holds_only : goal.returns-then-holds_only
returns-then-holds_only c = search back

pub returns-then-holds_only-2 : goal.returns-then-holds_only-2
returns-then-holds_only-2 c = search with_d

pub returns : goal.returns
returns c = search without_d
