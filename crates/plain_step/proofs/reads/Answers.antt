-- `plain_step::reads` meets its contract. By whether the body is the floor. Assumes nothing.
use Rattle.step_rules.specs.Step.{reads}
use Rattle.base_words.proofs.Pick.{take, pass}
use borrow.Author.Tests.{eq-eqb, ne_eqb}
use mathlib.Core.Path.{refl}
use Rattle.plain_step.proofs.reads.Goals as goal

pub returns-then-body-eq-FLOOR : goal.returns-then-body-eq-FLOOR
unfolding reads
returns-then-body-eq-FLOOR c = take _ (eq-eqb _ _ c.if-body-eq-FLOOR.true) c.zero.ensures

pub returns : goal.returns
unfolding reads
returns c = pass _ (ne_eqb _ _ c.if-body-eq-FLOOR.false) refl
