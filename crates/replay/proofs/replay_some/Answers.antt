-- `replay::replay_some` meets its contract. Where the read failed, it is as if no byte was read. Assumes nothing.
use Rattle.replay.proofs.Turns.{read_failed}
use Rattle.replay.proofs.replay_some.Goals as goal

pub returns-in_default-clause-once : goal.returns-in_default-clause-once
returns-in_default-clause-once g c = read_failed _ _ _ _ _
