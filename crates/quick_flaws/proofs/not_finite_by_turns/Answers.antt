-- `quick_flaws::not_finite_by_turns` meets its contract. The head, point a, point b. Assumes nothing.
use Rattle.step_values.specs.Values.{not_finite}
use Rattle.quick_flaws.proofs.Turns.{at_a, at_b, at_head, at_none, denied}
use Rattle.quick_flaws.proofs.not_finite_by_turns.Goals as goal

pub returns-then-not-finite_head : goal.returns-then-not-finite_head
unfolding not_finite
returns-then-not-finite_head c = search (at_head, denied)

pub returns-then-not-finite_point : goal.returns-then-not-finite_point
unfolding not_finite
returns-then-not-finite_point c = search (at_a, denied)

pub returns-then-head-eq2 : goal.returns-then-head-eq2
unfolding not_finite
returns-then-head-eq2 c = search (at_b, denied)

pub returns : goal.returns
unfolding not_finite
returns c = search (at_none, denied)
