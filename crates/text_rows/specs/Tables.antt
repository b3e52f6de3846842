-- Document 01, "Text form": what is written of the tables, from the bits that are printed: "It writes one A (answer branch) per step,
-- all B, then I (contact point normal-impulse tangent-impulse) for points below count where count is 1 or 2, then E (done refused)."
-- Assumes nothing.
use Rattle.std.specs.Prelude.{ℕ, ◌+◌, ◌*◌, ◌/◌, ◌%◌, ◌||◌, List, [], ◌∷◌, map, eqb, ltb, get_or}
use Rattle.base_words.specs.Choice.{if◌then◌otherwise◌}
use Rattle.base_places.specs.Places.{answer_width, body_width, floats_width, numbers_width, place, point_place}
use Rattle.base_places.specs.declared.Cell.{Cell}
use Rattle.base_places.specs.declared.Cell.TheVariants.{NormalImpulse, TangentImpulse}
use Rattle.base_rows.specs.Rows.{row, rows}
use Rattle.text_write.specs.Lines.{each, line}

-- A: row i of the room for answers, its number and its branch
unfoldable pub a_line : List ℕ → ℕ → List ℕ
a_line told i = line 65 (row answer_width i told) []

-- B: row i of the bodies, x y w
unfoldable pub b_line : List ℕ → ℕ → List ℕ
b_line bodies i = line 66 [] (row body_width i bodies)

-- the cells of a point that are printed: "normal-impulse tangent-impulse"
abbrev pub loads : List Cell
loads = NormalImpulse ∷ TangentImpulse ∷ []

-- I: contact k, point p, its loads
unfoldable pub i_line : List ℕ → ℕ → ℕ → List ℕ
i_line floats k p = line 73 (k ∷ p ∷ []) (map (λ c. get_or (row floats_width k floats) (point_place p + place c) 0) loads)

-- "for points below count where count is 1 or 2"
unfoldable pub points_of : List ℕ → ℕ → ℕ
points_of numbers k = let count = get_or (row numbers_width k numbers) 2 0 in if eqb count 1 || eqb count 2 then count otherwise 0

-- point j of all, two to a contact
unfoldable pub point_line : List ℕ → List ℕ → ℕ → List ℕ
point_line numbers floats j = if ltb (j % 2) (points_of numbers (j / 2)) then i_line floats (j / 2) (j % 2) otherwise []

-- what is listed, from a table of numbers and one of bits: answers, which are numbers, bodies, which are bits, or the loads of points, from
-- their contacts' two tables
pub data Listed : Type 0 where
  Answers : Listed
  Bodies : Listed
  Loads : Listed

-- from numbers and bits: how many rows there are, and the line of row i, if it has one
abbrev pub rows_of : Listed → List ℕ → List ℕ → ℕ
rows_of Answers told bits = rows answer_width told
rows_of Bodies numbers bodies = rows body_width bodies
rows_of Loads numbers floats = rows floats_width floats * 2

abbrev pub row_line : Listed → List ℕ → List ℕ → ℕ → List ℕ
row_line Answers told bits i = a_line told i
row_line Bodies numbers bodies i = b_line bodies i
row_line Loads numbers floats j = point_line numbers floats j

unfoldable pub listing : Listed → List ℕ → List ℕ → List ℕ
listing which numbers bits = each (row_line which numbers bits) (rows_of which numbers bits)
