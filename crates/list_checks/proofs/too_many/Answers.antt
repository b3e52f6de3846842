-- `list_checks::too_many` meets its contract. By computing. Assumes nothing.
use Rattle.list_checks.specs.Checks.{too_many}
use mathlib.Core.Path.{refl}
use Rattle.list_checks.proofs.too_many.Goals as goal

pub returns : goal.returns
unfolding too_many
returns c = refl
