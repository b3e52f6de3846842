-- The quick engine's step, in words that nobody else need know: a contact that is trusted, and what a look at one that is not yet trusted
-- comes to. Assumes nothing.
use Rattle.std.specs.Prelude.{ℕ, true, false, List, [], ◌∷◌, ◌≡◌, Float}
use Rattle.base_order.specs.OneByOne.{Stepped}
use Rattle.base_places.specs.Places.{body_width}
use Rattle.base_refusals.specs.Refusals.{◌when◌}
use Rattle.base_rows.specs.Rows.{rows}
use Rattle.step_kinds.specs.declared.ContactSolved.{ContactSolved}
use Rattle.step_rules.specs.Step.{Outcome, first_or}
use Rattle.step_values.specs.Values.{not_finite_vels}
use Rattle.list_cells.specs.declared.Answer.{Answer}
use Rattle.list_rules.specs.Sweep.{Tables, answered, new_bodies, new_floats, step_on, tables, vels_at}
use Rattle.list_tables.specs.Tables.{contact_at, step_as}
use Rattle.list_tables.specs.declared.Step.{Step}
use Rattle.quick_flaws.specs.Flaws.{vouched}
use Rattle.quick_step.specs.declared.Lent.{Lent}

-- the tables that are lent
abbrev pub tables_of : Lent → Tables
tables_of l = tables l.bodies.now l.numbers.now l.floats.now

-- what is lent is lent still: the same stretches, and the same numbers
pub record StillLent (l l' : Lent) : Type 0 where
  pub bodies : l'.bodies.ghost_name ≡ l.bodies.ghost_name
  pub numbers : l'.numbers.now ≡ l.numbers.now
  pub floats : l'.floats.ghost_name ≡ l.floats.ghost_name

-- contact k, as it stands in the tables now, is without a flaw, and the velocities of its bodies are finite
pub record Trusted (t : Tables) (k : ℕ) : Type 0 where
  pub sound : vouched (rows body_width t.bodies) (contact_at t.numbers t.floats k) ≡ true
  pub moving : not_finite_vels (vels_at t.bodies (contact_at t.numbers t.floats k).head) ≡ false

-- a step that is turned away by a number: nothing changes
abbrev pub turned_away : ℕ → Tables → Stepped Answer Tables
turned_away number t = record { answer = record { number = number; branch = 0 }; after = t }

-- what a look at a step's contact found: nothing, exactly where it is to be trusted; or the number that turns the step away
pub record Looked (s : Step) (t : Tables) (found : ℕ) : Type 0 where
  pub trusted : found ≡ 0 → Trusted t s.contact
  pub only : Trusted t s.contact → found ≡ 0
  pub turned : (found ≡ 0 → ⊥) → turned_away found t ≡ step_on s t

-- what was worked out of a trusted contact, unless a velocity is not finite
unfoldable pub tested : ContactSolved → Outcome
tested s = first_or (10 when not_finite_vels s.vels ∷ []) s

-- what is left of it, of contact k and a step's kind: the answer, the bodies and the floats
pub record Left (s : ContactSolved) (k kind : ℕ) (bodies floats : List Float) (a : Answer) (bodies' floats' : List Float) : Type 0 where
  pub answer : a ≡ answered (tested s)
  pub moved : bodies' ≡ new_bodies s.contact.head (tested s) bodies
  pub stored : floats' ≡ new_floats (step_as k kind) (tested s) floats
