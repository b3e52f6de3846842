-- When two calls on the same tables are refused alike. Assumes nothing.
use Prim.Native.Nat.{ℕ}
use mathlib.Core.Bool.{Bool}
use mathlib.Core.List.{List}
use mathlib.Core.Path.{◌≡◌}
use lib.Dec.{ltb}
use Rattle.base_places.specs.Places.{answer_width, floats_width, step_width}
use Rattle.base_rows.specs.Rows.{rows}
use Rattle.list_tables.specs.declared.Step.{Step}
use Rattle.base_order.specs.OneByOne.{any}
use Rattle.list_rules.specs.Sweep.{Tables, first_steps}
use Rattle.list_checks.specs.Checks.{Fault, KindAbove, NoContact, faulty, some_faulty, some_uneven, too_many, uneven, whole_call, wrong_sizes}

module _ (t : Tables) (steps room steps' room' : List ℕ) where
  -- 1: the list has as many rows, and list and room are whole rows in both or in neither
  sizes_alike : rows step_width steps' ≡ rows step_width steps → uneven step_width steps' ≡ uneven step_width steps → uneven answer_width room' ≡ uneven answer_width room
      → wrong_sizes t steps' room' ≡ wrong_sizes t steps room
  unfolding wrong_sizes too_many some_uneven
  sizes_alike many whole-steps whole_room = cc

  -- 2, 3: a step of the one is faulty where a step of the other is
  faulty_alike : ((test : Step → Bool) → any test (first_steps steps' (rows step_width steps')) ≡ any test (first_steps steps (rows step_width steps)))
      → (fault : Fault) (contacts : ℕ) → some_faulty fault contacts steps' ≡ some_faulty fault contacts steps
  unfolding some_faulty
  faulty_alike same fault contacts = same (faulty fault contacts)

  pub checked_alike : rows step_width steps' ≡ rows step_width steps → uneven step_width steps' ≡ uneven step_width steps → uneven answer_width room' ≡ uneven answer_width room
      → ltb (rows answer_width room') (rows step_width steps') ≡ ltb (rows answer_width room) (rows step_width steps)
      → ((test : Step → Bool) → any test (first_steps steps' (rows step_width steps')) ≡ any test (first_steps steps (rows step_width steps)))
      → whole_call t steps' room' ≡ whole_call t steps room
  unfolding whole_call
  checked_alike many whole-steps whole_room enough same =
      let one = sizes_alike many whole-steps whole_room in
      let two = faulty_alike same NoContact (rows floats_width t.floats) in
      let three = faulty_alike same KindAbove (rows floats_width t.floats) in
      cc
