-- `plain_step::worked` meets its contract. By whether what the routine made can be written. Assumes nothing.
use Rattle.step_rules.proofs.Chain.{lost}
use Rattle.step_rules.proofs.Chain.{good}
use Rattle.plain_step.proofs.worked.Goals as goal

pub returns-then-unwritable : goal.returns-then-unwritable
returns-then-unwritable c =
    let told = c.unwritable.ensures c.routine-solved.result.branch in
    search (lost, told)

pub returns : goal.returns
returns c =
    let told = c.unwritable.ensures c.routine-solved.result.branch in
    search (good, told)
