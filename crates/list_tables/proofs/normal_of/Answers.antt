-- `list_tables::normal_of` meets its contract. Cell by cell. Assumes nothing.
use Rattle.list_tables.specs.Tables.{normal_of}
use mathlib.Core.Path.{refl}
use Rattle.list_tables.proofs.normal_of.Goals as goal

pub returns : goal.returns
unfolding normal_of
returns c = refl
