-- The tables of bodies, contacts' numbers and floats, and steps, as what has been read: each is filled from its front as far as the state says.
-- For the functions of this crate and of those above. Assumes nothing.
use Rattle.std.specs.Prelude.{ℕ, ◌+◌, ◌≤◌, Bool, false, List, ◌++◌, Result, Ok, Err, ◌≡◌, drop, length, take}
use Rattle.text_fields.specs.Letters.{adds, asked}
use Rattle.text_fields.specs.declared.Counts.{Counts}
use Rattle.text_fields.specs.declared.Form.TheVariants.{Decimal, Hex}
use Rattle.text_fields.specs.declared.Letter.{Letter}
use Rattle.text_line.specs.Night.{Night}
use Rattle.text_line.specs.Lines.{LineCame, bad, full, good, put, read_line}
use Rattle.text_line.specs.declared.BadLine.{BadLine}
use Rattle.text_line.specs.declared.BadLine.TheVariants.{TooLong, NoLetter, OutOfOrder, BadField, NoRoom}
use Rattle.text_line.specs.declared.Place.{Place}
use Rattle.text_line.specs.declared.State.{State}
use Rattle.text_line.specs.declared.Tables.{Tables}

-- the tables that are lent, cell by cell
pub record Cells : Type 0 where
  pub bodies : List ℕ
  pub numbers : List ℕ
  pub floats : List ℕ
  pub steps : List ℕ

abbrev pub cells : List ℕ → List ℕ → List ℕ → List ℕ → Cells
cells bodies numbers floats steps = record { bodies = bodies; numbers = numbers; floats = floats; steps = steps }

-- those behind a value of the code's type
abbrev pub lent_cells : Tables → Cells
lent_cells t = cells t.bodies.now t.numbers.now t.floats.now t.steps.now

-- whoever lent the tables still has what was written to them: the references are the same
pub record SameTables (t t' : Tables) : Type 0 where
  pub same_bodies : t'.bodies.ghost_name ≡ t.bodies.ghost_name
  pub same_numbers : t'.numbers.ghost_name ≡ t.numbers.ghost_name
  pub same_floats : t'.floats.ghost_name ≡ t.floats.ghost_name
  pub same_steps : t'.steps.ghost_name ≡ t.steps.ghost_name

unfoldable pub night_of : State → Cells → Night
night_of st w = record {
  place = st.place;
  bodies = take st.bodies w.bodies;
  numbers = take st.numbers w.numbers;
  floats = take st.floats w.floats;
  steps = take st.steps w.steps;
}

-- the tables hold as many numbers as they are long
unfoldable pub room_of : Cells → Counts
room_of w = record {
  bodies = length w.bodies;
  numbers = length w.numbers;
  floats = length w.floats;
  steps = length w.steps;
}

-- document 01's numbers of the reasons
abbrev pub reason_number : BadLine → ℕ
reason_number TooLong = 1
reason_number NoLetter = 2
reason_number OutOfOrder = 3
reason_number BadField = 4
reason_number NoRoom = 5

unfoldable pub came_of : Result State BadLine → Cells → LineCame
unfolding night_of
came_of (Ok st) w = good (night_of st w)
came_of (Err reason) w = bad (reason_number reason)

-- no table is filled past its end
pub record Sane (st : State) (w : Cells) : Type 0 where
  pub bodies_fit : st.bodies ≤ length w.bodies
  pub numbers_fit : st.numbers ≤ length w.numbers
  pub floats_fit : st.floats ≤ length w.floats
  pub steps_fit : st.steps ≤ length w.steps

-- a table that was filled as far as n is now filled as far as n', and past that every cell is as it was
pub record GrownBy {A : Type 0} (n n' : ℕ) (t t' : List A) : Type 0 where
  pub more : n ≤ n'
  pub fits : n' ≤ length t'
  pub past : drop n' t' ≡ drop n' t
  pub long : length t' ≡ length t

pub record Grown (st st' : State) (w w' : Cells) : Type 0 where
  pub bodies : GrownBy st.bodies st'.bodies w.bodies w'.bodies
  pub numbers : GrownBy st.numbers st'.numbers w.numbers w'.numbers
  pub floats : GrownBy st.floats st'.floats w.floats w'.floats
  pub steps : GrownBy st.steps st'.steps w.steps w'.steps

-- a bad line writes to no cell
abbrev pub LeftBy : State → Result State BadLine → Cells → Cells → Type 0
LeftBy st (Ok st') w w' = Grown st st' w w'
LeftBy st (Err reason) w w' = w' ≡ w

-- more was put to the end of a table that was filled as far as `at`, and is now as far as r
pub record Appended {A : Type 0} (t : List A) (at : ℕ) (more t' : List A) (r : ℕ) : Type 0 where
  pub is : take r t' ≡ take at t ++ more
  pub far : r ≡ at + length more
  pub grown : GrownBy at r t t'

-- every table has room for what a letter adds
unfoldable pub HasRoom : Letter → State → Cells → Type 0
HasRoom l st w =
    (st.bodies + (adds l).bodies ≤ length w.bodies) × (st.numbers + (adds l).numbers ≤ length w.numbers)
    × (st.floats + (adds l).floats ≤ length w.floats) × (st.steps + (adds l).steps ≤ length w.steps)

-- whether a table is full for a letter
pub record Full (l : Letter) (st : State) (w : Cells) (r : Bool) : Type 0 where
  pub is : r ≡ full (room_of w) l (night_of st w)
  pub room : r ≡ false → HasRoom l st w

-- what a row says was put where it belongs
pub record Put (l : Letter) (place : Place) (st : State) (said bits : List ℕ) (w : Cells) (st' : State) (w' : Cells) : Type 0 where
  pub is : night_of st' w' ≡ put l place (take (asked Decimal l) said) (take (asked Hex l) bits) (night_of st w)
  pub grown : Grown st st' w w'

-- a line came to what a definition says of it
pub record Came (st : State) (w : Cells) (x : LineCame) (r : Result State BadLine) (w' : Cells) : Type 0 where
  pub is : came_of r w' ≡ x
  pub left : LeftBy st r w w'

-- a line was read
abbrev pub ReadLine : State → List ℕ → Cells → Result State BadLine → Cells → Type 0
ReadLine st line w = Came st w (read_line (room_of w) (night_of st w) line)
