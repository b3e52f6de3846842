-- The statement of specs/Order.antt, worked out. Assumes nothing.
use mathlib.Core.Path.{refl}
use Rattle.step_rules.specs.Order.{InNumberOrder, numbers}
use Rattle.step_rules.specs.Step.{checks}

pub in_number_order : InNumberOrder
unfolding numbers checks
in_number_order = refl
