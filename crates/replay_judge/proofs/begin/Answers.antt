-- `replay_judge::begin` meets its contract. Nothing has been read. Assumes nothing.
use Rattle.replay_judge.proofs.Finished.{begins}
use Rattle.replay_judge.proofs.begin.Goals as goal

pub returns : goal.returns
returns c = rw (c.begin-reader.ensures) begins
