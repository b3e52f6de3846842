-- What is known of a call that numbers 1 to 4 let pass. Assumes nothing.
use Prim.Native.Nat.{ℕ, ◌≤◌}
use mathlib.Core.List.{List}
use mathlib.Core.Bool.{true}
use mathlib.Core.Path.{◌≡◌, refl}
use borrow.Author.Tests.{ltb-false}
use Rattle.base_places.specs.Places.{answer_width, step_width}
use Rattle.base_refusals.specs.Refusals.{first}
use Rattle.base_refusals.specs.Distinct.{distinct, stands}
use Rattle.base_refusals.proofs.Exact.{none_holds}
use Rattle.base_rows.specs.Rows.{rows}
use Rattle.list_rules.specs.Sweep.{Tables}
use Rattle.list_checks.specs.Checks.{whole_call}

module _ (t : Tables) (steps room : List ℕ) where
  -- each number stands once
  pub distinct_numbers : distinct (whole_call t steps room) ≡ true
  unfolding whole_call distinct stands
  distinct_numbers = refl

  -- each step has its row in the room
  pub room_enough : first (whole_call t steps room) ≡ 0 → rows step_width steps ≤ rows answer_width room
  unfolding whole_call
  room_enough passed = ltb-false (rows answer_width room) (rows step_width steps) (none_holds (whole_call t steps room) distinct_numbers passed).1.1.1.0
