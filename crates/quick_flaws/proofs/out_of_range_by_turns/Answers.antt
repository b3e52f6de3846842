-- `quick_flaws::out_of_range_by_turns` meets its contract. The head, point a, point b. Assumes nothing.
use Rattle.step_values.specs.Values.{out_of_range}
use Rattle.quick_flaws.proofs.Turns.{at_a, at_b, at_head, at_none}
use Rattle.quick_flaws.proofs.out_of_range_by_turns.Goals as goal

pub returns-then-head_out : goal.returns-then-head_out
unfolding out_of_range
returns-then-head_out c = search at_head

pub returns-then-point_out : goal.returns-then-point_out
unfolding out_of_range
returns-then-point_out c = search at_a

pub returns-then-head-eq2 : goal.returns-then-head-eq2
unfolding out_of_range
returns-then-head-eq2 c = search at_b

pub returns : goal.returns
unfolding out_of_range
returns c = search at_none
