-- `list_checks::some_uneven` meets its contract. By computing. Assumes nothing.
use Rattle.list_checks.specs.Checks.{some_uneven}
use mathlib.Core.Path.{refl}
use Rattle.list_checks.proofs.some_uneven.Goals as goal

pub returns : goal.returns
unfolding some_uneven
returns c = refl
