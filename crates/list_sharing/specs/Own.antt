-- Which rows of the tables are a step's own, as a test: its contact's row, and the rows of its bodies, the floor not among them. Two
-- steps share something where some row is both steps' own. Assumes nothing.
use Rattle.std.specs.Prelude.{ℕ, Bool, not, ◌&&◌, ◌||◌, List, ◌↔◌, eqb, ltb, Float, get_or}
use Rattle.base_places.specs.Places.{body_width, floats_width, numbers_width}
use Rattle.step_contact.specs.Contact.{is_floor}
use Rattle.base_rows.specs.Rows.{row, rows}
use Rattle.list_tables.specs.declared.Step.{Step}
use Rattle.list_cells.specs.declared.Answer.{Answer}
use Rattle.base_order.specs.Local.{Device, Shared}
use Rattle.list_rules.specs.Sweep.{Tables, step_on}
use Rattle.list_sharing.specs.Sharing.{Shares}

-- What no step changes, so that a step's own rows are settled by the tables that its list starts from: the contacts' numbers, and how
-- many rows of bodies and of contacts' floats there are
pub record Shape : Type 0 where
  pub numbers : List ℕ
  pub bodies : ℕ
  pub contacts : ℕ

abbrev pub shape : Tables → Shape
shape t = record { numbers = t.numbers; bodies = rows body_width t.bodies; contacts = rows floats_width t.floats }

-- a contact of the table: it has a row of numbers and a row of floats
unfoldable pub is_contact : Shape → ℕ → Bool
is_contact sh k = ltb k (rows numbers_width sh.numbers) && ltb k sh.contacts

-- a body of the table that is not the floor
unfoldable pub is_body : Shape → ℕ → Bool
is_body sh b = ltb b sh.bodies && not (is_floor b)

-- the two bodies that contact k joins
unfoldable pub joins : Shape → ℕ → ℕ → Bool
joins sh k b = eqb b (get_or (row numbers_width k sh.numbers) 0 0) || eqb b (get_or (row numbers_width k sh.numbers) 1 0)

-- the places of the tables: a body's row, a contact's row of floats
pub data Place : Type 0 where
  body : ℕ → Place
  contact : ℕ → Place

abbrev pub look : Place → Tables → List Float
look (body b) t = row body_width b t.bodies
look (contact k) t = row floats_width k t.floats

-- a step's own places: the contact that it names, and the bodies that this contact joins. A number outside its table is none, and
-- neither is the floor
unfoldable pub touches : Shape → Step → Place → Bool
touches sh s (contact k) = eqb k s.contact && is_contact sh k
touches sh s (body b) = is_contact sh s.contact && joins sh s.contact b && is_body sh b

-- the tables, as a device whose steps have places of their own
abbrev pub feet : Device
feet = record {
  Step = Step;
  State = Tables;
  Answer = Answer;
  Shape = Shape;
  Place = Place;
  Row = List Float;
  step = step_on;
  shape = shape;
  look = look;
  touches = touches;
}

-- this comes to the user's words. Proved in proofs/Sharing.antt
abbrev pub SharedMeans : Type 0
SharedMeans = (t : Tables) (s u : Step) → Shared feet (shape t) s u ↔ Shares t s u
