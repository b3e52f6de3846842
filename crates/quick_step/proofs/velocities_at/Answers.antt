-- `quick_step::velocities_at` meets its contract. By what each read ensures. Assumes nothing.
use Rattle.list_rules.specs.Sweep.{vels_at}
use Rattle.elem_velocity.proofs.Both.{both_right}
use Rattle.quick_step.proofs.velocities_at.Goals as goal

pub returns : goal.returns
unfolding vels_at
returns c = search both_right
