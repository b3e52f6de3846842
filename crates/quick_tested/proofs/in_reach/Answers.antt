-- `quick_tested::in_reach` meets its contract. What lies between finite numbers is finite. Assumes nothing.
use mathlib.Core.Path.{refl}
use lib.Ieee.{neg, of_bits}
use Rattle.elem_leaves.specs.Finite.{finite}
use Rattle.quick_tested.proofs.Implied.{between}
use Rattle.quick_tested.proofs.in_reach.Goals as goal

pub returns : goal.returns
unfolding finite neg of_bits
returns c = between _ _ _ refl refl
