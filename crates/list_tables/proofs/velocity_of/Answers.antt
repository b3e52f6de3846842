-- `list_tables::velocity_of` meets its contract. Cell by cell. Assumes nothing.
use Rattle.list_tables.specs.Tables.{vel_of}
use mathlib.Core.Path.{refl}
use Rattle.list_tables.proofs.velocity_of.Goals as goal

pub returns : goal.returns
unfolding vel_of
returns c = refl
