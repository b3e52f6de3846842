-- `list_tables::tangent_of` meets its contract. Cell by cell. Assumes nothing.
use Rattle.list_tables.specs.Tables.{tangent_of}
use mathlib.Core.Path.{refl}
use Rattle.list_tables.proofs.tangent_of.Goals as goal

pub returns : goal.returns
unfolding tangent_of
returns c = refl
