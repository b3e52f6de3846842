-- `plain_step::as_read` meets its contract. By what reading each side ensures. Assumes nothing.
use Rattle.step_rules.specs.Step.{as_read}
use Rattle.elem_velocity.proofs.Both.{both_right}
use Rattle.plain_step.proofs.as_read.Goals as goal

pub returns : goal.returns
unfolding as_read
returns c = search both_right
