-- `list_tables::step_at` meets its contract. A row, no row. Assumes nothing.
use Rattle.base_places.specs.Places.{step_width}
use Rattle.base_rows.proofs.Lent.{read_there, read_past}
use Rattle.list_tables.specs.Tables.{step_as, step_at, step_of}
use mathlib.Core.Path.{refl}
use Rattle.list_tables.proofs.step_at.Goals as goal

pub returns-then-i-steps : goal.returns-then-i-steps
unfolding step_at
returns-then-i-steps c = read_there 2 _ _ step_of (step_as 0 0) c.if-i-steps.true c.step_of.ensures

pub returns : goal.returns
unfolding step_at
returns c = read_past step_width _ _ step_of (step_as 0 0) c.if-i-steps.false refl
