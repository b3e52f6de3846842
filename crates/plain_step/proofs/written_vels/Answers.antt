-- `plain_step::written_vels` meets its contract. By what writing each side ensures. Assumes nothing.
use Rattle.step_rules.specs.Step.{written_vels}
use Rattle.elem_velocity.proofs.Both.{both_right}
use Rattle.plain_step.proofs.written_vels.Goals as goal

pub returns : goal.returns
unfolding written_vels
returns c = search both_right
