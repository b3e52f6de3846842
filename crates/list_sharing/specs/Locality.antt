-- A step reads and writes only its own contact's row and the rows of its own bodies, the floor not among them. Each statement is proved
-- in proofs/Locality.antt (`NothingHidden` in proofs/Whole.antt). Assumes nothing.
use Rattle.std.specs.Prelude.{true, ◌≡◌}
use Rattle.base_places.specs.Places.{body_width, floats_width, numbers_width}
use Rattle.base_rows.specs.Rows.{row, rows}
use Rattle.list_tables.specs.declared.Step.{Step}
use Rattle.base_order.specs.Local.{AllThere, SameDone, ShapeKept, WritesOwn}
use Rattle.list_rules.specs.Sweep.{Tables}
use Rattle.list_sharing.specs.Own.{Place, feet, look, shape, touches}

-- no step changes how many rows there are, or a number of a contact
abbrev pub SameShape : Type 0
SameShape = ShapeKept feet

-- the frame: what a step writes is its own. Every other row keeps its bits
abbrev pub Frame : Type 0
Frame = WritesOwn feet

-- two tables have the same in all that step s looks at: its contact's numbers, the rows that are its own, and how many rows there are
pub record SameFor (s : Step) (t t' : Tables) : Type 0 where
  pub as_many_numbers : rows numbers_width t'.numbers ≡ rows numbers_width t.numbers
  pub as_many_contacts : rows floats_width t'.floats ≡ rows floats_width t.floats
  pub as_many_bodies : rows body_width t'.bodies ≡ rows body_width t.bodies
  pub own_numbers : row numbers_width s.contact t'.numbers ≡ row numbers_width s.contact t.numbers
  pub own_rows : (p : Place) → touches (shape t) s p ≡ true → look p t' ≡ look p t

-- locality: what a step reads is that. So it gives the same answer, and leaves the same in its own rows
abbrev pub Locality : Type 0
Locality = (s : Step) (t t' : Tables) → SameFor s t t' → SameDone feet s t t'

-- tables of one shape that agree in every row are the same
abbrev pub NothingHidden : Type 0
NothingHidden = AllThere feet
