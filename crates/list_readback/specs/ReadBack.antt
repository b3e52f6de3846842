-- What a done step leaves in the tables, read again, is what the step on copies gave: the cells that are written are the cells that are
-- read, and all that a step worked out is in them. Each is proved in proofs/ReadBack.antt. Assumes nothing.
use Rattle.std.specs.Prelude.{ℕ, ◌⊎◌, ◌≡◌}
use Rattle.step_contact.specs.declared.Contact.{Contact}
use Rattle.step_kinds.specs.declared.ContactSolved.{ContactSolved}
use Rattle.list_tables.specs.Tables.{contact_at}
use Rattle.list_tables.specs.declared.Step.{Step}
use Rattle.list_rules.specs.Sweep.{Tables, its_contact, outcome, step_on, vels_at}
use Rattle.step_rules.specs.Step.{Done}

-- the step's contact, with its new impulses
abbrev pub ContactReadBack : Type 0
ContactReadBack = (s : Step) (t : Tables) (d : ContactSolved) → outcome s t ≡ Done d → its_contact s (step_on s t).after ≡ d.contact

-- every contact after a step is what it was; or it is the step's own, and what a done step on copies gave
pub record Own (s : Step) (t : Tables) (k : ℕ) (new : Contact) : Type 0 where
  pub gave : ContactSolved
  pub done : outcome s t ≡ Done gave
  pub own : k ≡ s.contact
  pub is : new ≡ gave.contact

abbrev pub EachContact : Type 0
EachContact =
    (s : Step) (t : Tables) (k : ℕ)
    → let new = contact_at (step_on s t).after.numbers (step_on s t).after.floats k in
    (new ≡ contact_at t.numbers t.floats k) ⊎ Own s t k new

-- the velocities of its bodies; the floor reads as rest, which is what a step gives for it
abbrev pub VelocitiesReadBack : Type 0
VelocitiesReadBack =
    (s : Step) (t : Tables) (d : ContactSolved) → outcome s t ≡ Done d
    → vels_at (step_on s t).after.bodies d.contact.head ≡ d.vels
