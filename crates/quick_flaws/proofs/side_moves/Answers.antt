-- `quick_flaws::side_moves` meets its contract. By whether the body is the floor. Assumes nothing.
use borrow.Author.Tests.{eq-eqb, ne_eqb}
use mathlib.Core.Path.{refl}
use Rattle.step_values.proofs.Parts.{made, not_made}
use Rattle.step_values.specs.Values.{floor_moves}
use Rattle.quick_flaws.proofs.side_moves.Goals as goal

pub returns-then-body-eq-FLOOR : goal.returns-then-body-eq-FLOOR
unfolding floor_moves
returns-then-body-eq-FLOOR c = made (eq-eqb _ _ c.if-body-eq-FLOOR.true) refl

pub returns : goal.returns
unfolding floor_moves
returns c = not_made _ (ne_eqb _ _ c.if-body-eq-FLOOR.false)
