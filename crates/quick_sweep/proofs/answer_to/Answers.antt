-- `quick_sweep::answer_to` meets its contract. Turned away, or worked. Assumes nothing.
use Rattle.quick_sweep.proofs.Flags.{stay_right}
use Rattle.quick_sweep.proofs.answer_to.Goals as goal

pub returns-in-None-clause-trusting : goal.returns-in-None-clause-trusting
returns-in-None-clause-trusting c = stay_right _ _ _ c.in-None.ensures.trusting c.step_on.ensures.stepped
