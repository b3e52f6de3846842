-- `list_tables::step_of` meets its contract. Cell by cell. Assumes nothing.
use Rattle.list_tables.specs.Tables.{step_of}
use mathlib.Core.Path.{refl}
use Rattle.list_tables.proofs.step_of.Goals as goal

pub returns : goal.returns
unfolding step_of
returns c = refl
