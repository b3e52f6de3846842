-- `replay_compare::tell` meets its contract. One field after the day's number. Assumes nothing.
use Rattle.replay_compare.proofs.Cases.{one_field}
use Rattle.replay_compare.proofs.tell.Goals as goal

pub returns : goal.returns
returns c = search one_field
