-- Document 01, "Numbers that refuse": the conditions of numbers 1 to 4, which refuse a whole call. t is the tables, steps the list and
-- room the room for answers, each as lent. Assumes nothing.
use Rattle.std.specs.Prelude.{ℕ, ◌%◌, Bool, not, ◌||◌, List, [], ◌∷◌, eqb, ltb, length}
use Rattle.base_places.specs.Places.{answer_width, body_width, floats_width, most_bodies, most_contacts, most_steps, numbers_width, step_width}
use Rattle.step_shape.specs.Shape.{kind_above}
use Rattle.base_refusals.specs.Refusals.{Condition, ◌when◌}
use Rattle.base_rows.specs.Rows.{rows}
use Rattle.list_tables.specs.declared.Step.{Step}
use Rattle.base_order.specs.OneByOne.{any}
use Rattle.list_rules.specs.Sweep.{Tables, first_steps}

-- 1: a library size above is exceeded: at most 4,096 bodies, 16,384 contacts and 65,536 steps ..
unfoldable pub too_many : Tables → List ℕ → Bool
too_many t steps = ltb most_bodies (rows body_width t.bodies) || ltb most_contacts (rows floats_width t.floats) || ltb most_steps (rows step_width steps)

-- .. or a lent stretch isn't a whole number of rows ..
abbrev pub uneven : {A : Type 0} → ℕ → List A → Bool
uneven n l = not (eqb (length l % n) 0)

unfoldable pub some_uneven : Tables → List ℕ → List ℕ → Bool
some_uneven t steps room = uneven body_width t.bodies || uneven numbers_width t.numbers || uneven floats_width t.floats || uneven step_width steps || uneven answer_width room

-- .. or stretches of one table differ in rows
unfoldable pub wrong_sizes : Tables → List ℕ → List ℕ → Bool
wrong_sizes t steps room = too_many t steps || some_uneven t steps room || not (eqb (rows numbers_width t.numbers) (rows floats_width t.floats))

-- 2: some step names a contact not in the contact table; 3: some kind is above 4
pub data Fault : Type 0 where
  NoContact : Fault
  KindAbove : Fault

unfoldable pub faulty : Fault → ℕ → Step → Bool
faulty NoContact contacts s = not (ltb s.contact contacts)
faulty KindAbove contacts s = kind_above s.kind

-- "over the whole list (steps past the budget included)"
unfoldable pub some_faulty : Fault → ℕ → List ℕ → Bool
some_faulty fault contacts steps = any (faulty fault contacts) (first_steps steps (rows step_width steps))

-- The one list of a call's numbers, in the order of judging: "Checks run in number order, 1 to 4". 4: room for answers is less than the list length
unfoldable pub whole_call : Tables → List ℕ → List ℕ → List Condition
whole_call t steps room =
    1 when wrong_sizes t steps room
    ∷ 2 when some_faulty NoContact (rows floats_width t.floats) steps
    ∷ 3 when some_faulty KindAbove (rows floats_width t.floats) steps
    ∷ 4 when ltb (rows answer_width room) (rows step_width steps)
    ∷ []
