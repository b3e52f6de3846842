-- `quick_step::look` meets its contract. Each return is the first condition that holds. Assumes nothing.
use Rattle.quick_step.proofs.Looked.{by_flaw, by_loss, by_pair, by_range, is_missing, is_trusted, no_such_kind}
use Rattle.quick_step.proofs.look.Goals as goal

pub returns-then-is_none-lost : goal.returns-then-is_none-lost
returns-then-is_none-lost c =
    is_trusted _ _ _ _ _ c.contact_at-contact.ensures c.flaw-found.ensures c.velocities_at.ensures c.lost_vels-lost.ensures _ c.is_none.ensures
    c.if-is_none-lost.true

pub returns-then-floats-k : goal.returns-then-floats-k
returns-then-floats-k c = search is_missing depth 16

pub returns-then-kind_above : goal.returns-then-kind_above
returns-then-kind_above c = search no_such_kind depth 16

pub returns-then-eq : goal.returns-then-eq
returns-then-eq c =
    by_flaw _ _ _ _ _ c.contact_at-contact.ensures c.flaw-found.ensures c.velocities_at.ensures c.lost_vels-lost.ensures _ c.is_none.ensures
    c.if-is_none-lost.false c.if-floats-k.false c.kind_above.ensures c.if-kind_above.false c.eq.ensures c.eq-2.ensures c.if-eq.true

pub returns-then-pair_of_one : goal.returns-then-pair_of_one
returns-then-pair_of_one c = search by_pair depth 16

pub returns-then-eq-lost : goal.returns-then-eq-lost
returns-then-eq-lost c = search by_loss depth 16

pub returns : goal.returns
returns c = search by_range depth 16
