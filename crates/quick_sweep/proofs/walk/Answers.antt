-- `quick_sweep::walk` meets its contract. After i steps the tables, the room and the count are those of the first i steps, and the flags are right. Assumes nothing.
use Rattle.std.proofs.Common.{rules}
use Rattle.quick_sweep.proofs.SoFar.{at_start, count_fits, go_on, gone_near}
use Rattle.quick_sweep.proofs.walk.Goals as goal

pub loop-i-init : goal.loop-i-init
loop-i-init c = search at_start

pub overflow_add-refused : goal.overflow_add-refused
overflow_add-refused c = search count_fits

pub loop-i-preserved : goal.loop-i-preserved
loop-i-preserved c = search go_on

pub returns-clause-swept : goal.returns-clause-swept
returns-clause-swept c =
    let at_end = c.loop-i.invariant in
    gone_near _ _ _ _ _ _ c.steps_among-last.ensures (search rules) (search rules) at_end.0 (search rules) at_end.1.numbers (search rules)
