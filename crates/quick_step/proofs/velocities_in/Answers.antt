-- `quick_step::velocities_in` meets its contract. Both bodies are there, or the floor. Assumes nothing.
use Rattle.list_rules.specs.Sweep.{vels_at}
use Rattle.elem_velocity.proofs.Both.{both_right}
use Rattle.quick_step.proofs.There.{first_there, second_there}
use Rattle.quick_step.proofs.velocities_in.Goals as goal

pub velocity_in-requires : goal.velocity_in-requires
velocity_in-requires c = search first_there

pub velocity_in-requires-2 : goal.velocity_in-requires-2
velocity_in-requires-2 c = search second_there

pub returns : goal.returns
unfolding vels_at
returns c = search both_right
