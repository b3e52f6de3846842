-- Demand 3: "any two steps that share a body or a contact", where "the floor is no shared body". What two steps share is read off the
-- tables that their list starts from; a number outside its table is not shared. Assumes nothing.
use Rattle.std.specs.Prelude.{ℕ, ◌<◌, ◌≢◌, ◌⊎◌, ◌≡◌}
use Rattle.base_places.specs.Places.{body_width, floats_width, numbers_width}
use Rattle.base_rows.specs.Rows.{rows}
use Rattle.list_tables.specs.declared.Step.{Step}
use Rattle.list_rules.specs.Sweep.{Tables, its_contact}

-- contact k is in the table: it has a row of numbers and a row of floats
abbrev pub There : Tables → ℕ → Type 0
There t k = (k < rows numbers_width t.numbers) × (k < rows floats_width t.floats)

-- b is one of the two body numbers of a step's contact
pub record Names (t : Tables) (s : Step) (b : ℕ) : Type 0 where
  pub there : There t s.contact
  pub side : (b ≡ (its_contact s t).head.body1) ⊎ (b ≡ (its_contact s t).head.body2)

-- two steps share a contact of the table, or a body of the table that is not the floor
pub data Shares (t : Tables) (s u : Step) : Type 0 where
  a_contact : There t s.contact → s.contact ≡ u.contact → Shares t s u
  a_body : (b : ℕ) → b < rows body_width t.bodies → b ≢ 65535 → Names t s b → Names t u b → Shares t s u
