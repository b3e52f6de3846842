-- `quick_step::kept` meets its contract. By whether a velocity is lost. Assumes nothing.
use Rattle.quick_step.proofs.Written.{all_kept, not_kept}
use Rattle.quick_step.proofs.There.{first_there, still_there}
use Rattle.quick_step.proofs.kept.Goals as goal

pub returns-then-lost_vels-clause-left : goal.returns-then-lost_vels-clause-left
returns-then-lost_vels-clause-left c = not_kept _ _ _ _ _ c.lost_vels.ensures c.if-lost_vels.true c.from.ensures

pub put_velocity_in-requires : goal.put_velocity_in-requires
put_velocity_in-requires c = search first_there

pub put_velocity_in-requires-2 : goal.put_velocity_in-requires-2
put_velocity_in-requires-2 c = search still_there

pub returns-clause-left : goal.returns-clause-left
returns-clause-left c =
    all_kept _ _ _ _ _ c.lost_vels.ensures c.if-lost_vels.false c.put_velocity_in.ensures c.put_velocity_in-2.ensures
    c.put_impulses_in.ensures c.branch_word.ensures
