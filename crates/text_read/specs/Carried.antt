-- What a reader carries, as a text that is being read, for the contracts of this crate and of those above. Assumes nothing.
use Rattle.std.specs.Prelude.{ℕ, min, Bool, true, false, Option, None, Some, is_some, List, [], ◌++◌, ◌≡◌, drop, length, take}
use Rattle.base_places.specs.Lengths.{largest}
use Rattle.text_fields.specs.declared.Counts.{Counts}
use Rattle.text_line.specs.Night.{Night}
use Rattle.text_line.specs.Filled.{Cells, cells, night_of, room_of}
use Rattle.text_line.specs.declared.Place.TheVariants.{Bodies}
use Rattle.text_line.specs.declared.State.{State}
use Rattle.text_read.specs.Text.{Text, reading, refused, text_of}
use Rattle.text_read.specs.Portions.{Reading, begun, ended, going, over, taken}
use Rattle.text_read.specs.declared.Reader.{Reader}

abbrev pub text_by : Option ℕ → List ℕ → ℕ → Night → Text
text_by None held n t = reading held n t
text_by (Some reason) held n t = refused n reason t

-- the first `len` bytes of `line` are those of the line that has not ended; the tables are filled as far as the state says, and no further
-- than they are long: so a reader of any fields carries a text
unfoldable pub text_in : Reader → List ℕ → Cells → Text
text_in k line w = text_by k.bad (take k.len line) k.number (night_of k.st w)

abbrev pub side : Bool → Text → Reading
side false x = going x
side true x = over x

unfoldable pub reading_in : Reader → List ℕ → Cells → Reading
reading_in k line w = side k.over (text_in k line w)

-- a line's number goes no further than a machine word does
unfoldable pub capped : Text → Text
capped (reading line n t) = reading line (min n largest) t
capped (refused n reason t) = refused (min n largest) reason t

unfoldable pub capped_in : Reading → Reading
capped_in (going x) = going (capped x)
capped_in (over x) = over (capped x)

-- what the lines said, but for a bad one
unfoldable pub said : Text → Night
said (reading line n t) = t
said (refused n reason t) = t

unfoldable pub said_in : Reading → Night
said_in (going x) = said x
said_in (over x) = said x

-- what was said stands at the front of its table, and past it every cell is as it was
abbrev pub on_front : List ℕ → List ℕ → List ℕ
on_front table said = said ++ drop (length said) table

unfoldable pub laid : Cells → Night → Cells
laid w t =
    cells (on_front w.bodies t.bodies) (on_front w.numbers t.numbers) (on_front w.floats t.floats)
    (on_front w.steps t.steps)

-- a call made the reader k one that carries `next` of what k carried, and the tables w those with all that was said, as `is` tells it, laid over
-- them
pub record Went (k : Reader) (line : List ℕ) (w : Cells) (next : Reading → Reading) (k' : Reader) (line' : List ℕ) (w' : Cells) : Type 0 where
  pub is : reading_in k' line' w' ≡ capped_in (next (reading_in k line w))
  pub tables : w' ≡ laid w (said_in (reading_in k' line' w'))
  pub kept : room_of w' ≡ room_of w

-- a reader that has read nothing, whatever stands in its line and its tables: this one
abbrev pub fresh : Reader
fresh = record { over = false; bad = None; number = 1; st = record { place = Bodies; bodies = 0; numbers = 0; floats = 0; steps = 0 }; len = 0 }

abbrev pub Begins : Reader → Type 0
Begins k = (line : List ℕ) (w : Cells) → reading_in k line w ≡ begun

-- the portion s was taken
abbrev pub Takes : Reader → List ℕ → Cells → List ℕ → Reader → List ℕ → Cells → Type 0
Takes k line w s = Went k line w (λ r. taken (room_of w) r s)

-- the end was announced
abbrev pub Ends : Reader → List ℕ → Cells → Reader → List ℕ → Cells → Type 0
Ends k line w = Went k line w (ended (room_of w))

-- a whole text was read: what is carried after it, in which no line has not ended, and every cell of the tables
pub record ReadWhole (input : List ℕ) (w : Cells) (r : Reader) (w' : Cells) : Type 0 where
  pub is : reading_in r [] w' ≡ capped_in (over (text_of (room_of w) input))
  pub tables : w' ≡ laid w (said (text_of (room_of w) input))

-- a line was bad
abbrev pub is_bad : Option ℕ → Bool
is_bad bad = is_some bad

-- a state of any fields as one of tables that hold so many numbers: none is filled past its end
abbrev pub settled_in : State → Counts → State
settled_in st room = record {
  place = st.place;
  bodies = min st.bodies room.bodies;
  numbers = min st.numbers room.numbers;
  floats = min st.floats room.floats;
  steps = min st.steps room.steps;
}
