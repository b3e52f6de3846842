-- `plain_step::as_written` meets its contract. By what writing the velocities ensures. Assumes nothing.
use Rattle.step_rules.specs.Step.{as_written}
use Rattle.plain_step.proofs.as_written.Goals as goal

pub returns : goal.returns
unfolding as_written
returns c = rw (← c.written_vels.ensures)
