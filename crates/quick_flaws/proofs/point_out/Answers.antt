-- `quick_flaws::point_out` meets its contract. One kind of test after the other. Assumes nothing.
use Rattle.step_values.specs.Values.{point_out}
use Rattle.quick_flaws.proofs.Turns.{first_turn, former, latter, neither, second_turn, third_turn}
use Rattle.quick_flaws.proofs.point_out.Goals as goal

pub returns-then-below : goal.returns-then-below
unfolding point_out
returns-then-below c = search (first_turn, former)

pub returns-then-not-cfm : goal.returns-then-not-cfm
unfolding point_out
returns-then-not-cfm c = search (first_turn, latter)

pub returns-then-side_moves : goal.returns-then-side_moves
unfolding point_out
returns-then-side_moves c = search (second_turn, neither)

pub returns : goal.returns
unfolding point_out
returns c = search (third_turn, neither)
