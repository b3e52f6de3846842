-- `list_tables::head_of` meets its contract. Cell by cell. Assumes nothing.
use Rattle.list_tables.specs.Tables.{head_of}
use mathlib.Core.Path.{refl}
use Rattle.list_tables.proofs.head_of.Goals as goal

pub returns : goal.returns
unfolding head_of
returns c = refl
