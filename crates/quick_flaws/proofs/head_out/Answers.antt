-- `quick_flaws::head_out` meets its contract. One kind of test after the other. Assumes nothing.
use Rattle.step_values.specs.Values.{head_out}
use Rattle.quick_flaws.proofs.Turns.{first_turn, second_turn, third_turn}
use Rattle.quick_flaws.proofs.head_out.Goals as goal

pub returns-then-below : goal.returns-then-below
unfolding head_out
returns-then-below c = search first_turn

pub returns-then-side_moves : goal.returns-then-side_moves
unfolding head_out
returns-then-side_moves c = search second_turn

pub returns : goal.returns
unfolding head_out
returns c = search third_turn
