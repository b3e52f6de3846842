-- Document 01, "Text form" and "Tables": what has been read of a text. Assumes nothing.
use Rattle.std.specs.Prelude.{ℕ, ◌*◌, List, []}
use Rattle.base_places.specs.Places.{body_width, floats_width, numbers_width, step_width}
use Rattle.base_places.specs.Lengths.{program_bodies, program_contacts, program_steps}
use Rattle.text_fields.specs.declared.Counts.{Counts}
use Rattle.text_line.specs.declared.Place.{Place}
use Rattle.text_line.specs.declared.Place.TheVariants.{Bodies}

-- The place in the order of lines; the bodies' floats, the contacts' numbers and floats, and the steps' numbers: row after row, floats as
-- their bits
pub record Night : Type 0 where
  pub place : Place
  pub bodies : List ℕ
  pub numbers : List ℕ
  pub floats : List ℕ
  pub steps : List ℕ

unfoldable pub blank : Night
blank = record { place = Bodies; bodies = []; numbers = []; floats = []; steps = [] }

-- "The text program holds 64, 64 and 256": how many numbers each table holds
unfoldable pub of_program : Counts
of_program = record {
  bodies = program_bodies * body_width;
  numbers = program_contacts * numbers_width;
  floats = program_contacts * floats_width;
  steps = program_steps * step_width;
}
