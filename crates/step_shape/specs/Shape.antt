-- Document 01, "Numbers that refuse": the conditions of numbers 3, 5, 6 and 7, which look at a step's kind and at the whole numbers of
-- its contact's head h. Assumes nothing.
use Rattle.std.specs.Prelude.{ℕ, Bool, not, ◌&&◌, ◌||◌, eqb, leb, ltb, length}
use Rattle.step_contact.specs.Contact.{is_floor}
use Rattle.step_contact.specs.declared.ContactHead.{ContactHead}
use Rattle.step_kinds.specs.Table.{kinds, points_for}

-- 3: the kind is above 4, the last of the table
unfoldable pub kind_above : ℕ → Bool
kind_above kind = leb (length kinds) kind

-- 5: a body number is neither in the table nor 65535, or both are equal
abbrev pub nowhere : ℕ → ℕ → Bool
nowhere body rows = not (ltb body rows || is_floor body)

unfoldable pub wrong_bodies : ContactHead → ℕ → Bool
wrong_bodies h rows = nowhere h.body1 rows || nowhere h.body2 rows || eqb h.body1 h.body2

-- 6: count is not 1 or 2
unfoldable pub wrong_count : ContactHead → Bool
wrong_count h = not (eqb h.count 1 || eqb h.count 2)

-- 7: kind 4, which needs two points, and count 1
unfoldable pub pair_of_one : ℕ → ContactHead → Bool
pair_of_one kind h = eqb (points_for kind) 2 && eqb h.count 1
