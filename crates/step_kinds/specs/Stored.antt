-- A contact with some cells of another, for statements about what a step leaves as it was. Assumes nothing.
use Rattle.std.specs.Prelude.{Bool, List, [], ◌∷◌, ltb}
use Rattle.base_words.specs.Choice.{if◌then◌otherwise◌}
use Rattle.base_places.specs.Places.{cells}
use Rattle.base_places.specs.declared.Cell.{Cell}
use Rattle.step_contact.specs.Cells.{in_cell, with_cell}
use Rattle.step_contact.specs.declared.Contact.{Contact}
use Rattle.step_contact.specs.declared.ContactPoint.{ContactPoint}

-- a point with those cells of another that are stored, one after the other
unfoldable pub stored_in : List Cell → (Cell → Bool) → ContactPoint → ContactPoint → ContactPoint
stored_in [] stored old new = old
stored_in (c ∷ cs) stored old new = stored_in cs stored (if stored c then with_cell c old (in_cell c new) otherwise old) new

abbrev pub stored_at : (Cell → Bool) → ContactPoint → ContactPoint → ContactPoint
stored_at stored old new = stored_in cells stored old new

-- a contact with those of another, at points below count
unfoldable pub stored : (Cell → Bool) → Contact → Contact → Contact
stored which old new = record {
  head = old.head;
  a = if ltb 0 old.head.count then stored_at which old.a new.a otherwise old.a;
  b = if ltb 1 old.head.count then stored_at which old.b new.b otherwise old.b;
}
