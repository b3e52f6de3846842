-- `plain_step::writes` meets its contract. By whether the body is the floor. Assumes nothing.
use Rattle.step_rules.specs.Step.{writes}
use Rattle.base_words.proofs.Pick.{take, pass}
use borrow.Author.Tests.{eq-eqb, ne_eqb}
use mathlib.Core.Path.{refl}
use Rattle.plain_step.proofs.writes.Goals as goal

pub returns-then-body-eq-FLOOR : goal.returns-then-body-eq-FLOOR
unfolding writes
returns-then-body-eq-FLOOR c = take _ (eq-eqb _ _ c.if-body-eq-FLOOR.true) refl

pub returns : goal.returns
unfolding writes
returns c = pass _ (ne_eqb _ _ c.if-body-eq-FLOOR.false) refl
