-- `quick_sweep::raise` meets its contract. By whether the contact has a flag. Assumes nothing.
use mathlib.Core.Path.{refl}
use Rattle.quick_sweep.proofs.Flags.{none_put}
use Rattle.quick_sweep.specs.Flags.{flagged}
use Rattle.quick_sweep.proofs.raise.Goals as goal

pub returns-then-k-flags : goal.returns-then-k-flags
unfolding flagged
returns-then-k-flags c = refl

pub returns-else-k-flags : goal.returns-else-k-flags
returns-else-k-flags c = search none_put
