-- Document 01, "Text form": what a line adds to what has been read, or the reason why it is bad. Assumes nothing.
-- "2 first field no known letter (an empty line too), 3 letter out of order .., 4 field count or field form, 5 table full; tested in
-- that order"
use Rattle.std.specs.Prelude.{ℕ, ◌+◌, Bool, true, false, ◌||◌, List, ◌++◌, Option, None, Some, eqb, ltb, length, take}
use Rattle.base_words.specs.Choice.{if◌then◌otherwise◌}
use Rattle.base_places.specs.Places.{floats_width}
use Rattle.text_fields.specs.Fields.{Says, Values}
use Rattle.text_fields.specs.Letters.{adds, line_letter, says}
use Rattle.text_fields.specs.declared.Counts.{Counts}
use Rattle.text_fields.specs.declared.Letter.{Letter}
use Rattle.text_fields.specs.declared.Letter.TheVariants.{Body, Contact, Normal, Tangent, Step, Other}
use Rattle.text_line.specs.Night.{Night}
use Rattle.text_line.specs.declared.Place.{Place}
use Rattle.text_line.specs.declared.Place.TheVariants.{Bodies, NormalA, TangentA, NormalB, TangentB, Contacts, Steps}

-- letters told apart
abbrev pub number : Letter → ℕ
number Body = 0
number Contact = 1
number Normal = 2
number Tangent = 3
number Step = 4
number Other = 5

abbrev pub is : Letter → Letter → Bool
is l m = eqb (number l) (number m)

-- "First all B; then each contact as C, N, T, N, T; then all S": where a letter leads from a place; to none, where it is out of order
abbrev pub on : Letter → Letter → Place → Option Place → Option Place
on l awaited place other = if is l awaited then Some place otherwise other

abbrev pub next_place : Letter → Place → Option Place
next_place l Bodies = on l Body Bodies (on l Contact NormalA (on l Step Steps None))
next_place l NormalA = on l Normal TangentA None
next_place l TangentA = on l Tangent NormalB None
next_place l NormalB = on l Normal TangentB None
next_place l TangentB = on l Tangent Contacts None
next_place l Contacts = on l Contact NormalA (on l Step Steps None)
next_place l Steps = on l Step Steps None

-- a contact's lines are not all there yet
abbrev pub in_contact : Place → Bool
in_contact Bodies = false
in_contact NormalA = true
in_contact TangentA = true
in_contact NormalB = true
in_contact TangentB = true
in_contact Contacts = false
in_contact Steps = false

-- "table full": a table that holds so many numbers has no room for so many more
unfoldable pub lacks : ℕ → ℕ → List ℕ → Bool
lacks room more l = ltb room (length l + more)

-- a contact's room is asked for whole, at its C line
abbrev pub asks_floats : Letter → ℕ
asks_floats l = if is l Contact then floats_width otherwise (adds l).floats

unfoldable pub full : Counts → Letter → Night → Bool
full room l t =
    lacks room.bodies (adds l).bodies t.bodies || lacks room.numbers (adds l).numbers t.numbers
    || lacks room.floats (asks_floats l) t.floats
    || lacks room.steps (adds l).steps t.steps

-- what a line says goes to the end of the tables
unfoldable pub put : Letter → Place → List ℕ → List ℕ → Night → Night
put l place numbers bits t = record {
  place = place;
  bodies = t.bodies ++ take (adds l).bodies bits;
  numbers = t.numbers ++ take (adds l).numbers numbers;
  floats = t.floats ++ take (adds l).floats bits;
  steps = t.steps ++ take (adds l).steps numbers;
}

-- what a line comes to: what has been read with it, or its reason
pub data LineCame : Type 0 where
  good : Night → LineCame
  bad : ℕ → LineCame

-- 4, then 5
unfoldable pub filled : Counts → Letter → Place → Night → Option Values → LineCame
filled room l place t None = bad 4
filled room l place t (Some (Says numbers bits)) = if full room l t then bad 5 otherwise good (put l place numbers bits t)

-- 3
unfoldable pub ordered : Counts → Letter → Option Place → Night → Option Values → LineCame
ordered room l None t v = bad 3
ordered room l (Some place) t v = filled room l place t v

-- 2
unfoldable pub read_letter : Counts → Night → Letter → Option Values → LineCame
read_letter room t l v = if is l Other then bad 2 otherwise ordered room l (next_place l t.place) t v

unfoldable pub read_line : Counts → Night → List ℕ → LineCame
read_line room t line = read_letter room t (line_letter line) (says (line_letter line) line)
