-- `quick_tested::lost_vels` meets its contract. A sum that is finite has finite parts. Assumes nothing.
use Rattle.quick_tested.proofs.Six.{six}
use Rattle.quick_tested.proofs.lost_vels.Goals as goal

pub returns-then-in_reach : goal.returns-then-in_reach
returns-then-in_reach c = six _ (c.in_reach.ensures c.if-in_reach.true)
