-- `list_checks::largest` meets its contract. Both are the largest of the first i steps. Assumes nothing.
use Rattle.list_checks.proofs.Some.{largest_more, largest_none}
use Rattle.list_checks.proofs.largest.Goals as goal

pub loop-i-init : goal.loop-i-init
loop-i-init c = (largest_none _ _, largest_none _ _)

pub loop-i-preserved : goal.loop-i-preserved
loop-i-preserved c = (search largest_more, search largest_more)
