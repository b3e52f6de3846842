-- A done step on the tables: its contact is there, the step on copies is done, and what stands in the tables after it. Assumes nothing.
use Prim.Native.Nat.{ℕ, ◌<◌}
use mathlib.Core.Bool.{Bool, true, false}
use mathlib.Core.List.{List}
use mathlib.Core.Path.{◌≡◌, refl, sym, ap}
use borrow.Author.Tests.{ltb-true}
use lib.Dec.{ltb}
use lib.Ieee.{Float}
use Rattle.base_places.specs.Places.{body_width, floats_width}
use Rattle.base_words.specs.Choice.{if◌then◌otherwise◌}
use Rattle.elem_velocity.specs.declared.Vels.{Vels}
use Rattle.step_contact.specs.declared.ContactHead.{ContactHead}
use Rattle.step_kinds.specs.declared.ContactSolved.{ContactSolved}
use Rattle.step_rules.specs.Step.{Done, Outcome, Refused, step}
use Rattle.step_rules.proofs.Chain.{not_both}
use Rattle.base_rows.specs.Rows.{rows}
use Rattle.list_tables.specs.Tables.{contact_at, vel_at}
use Rattle.list_tables.specs.declared.Step.{Step}
use Rattle.list_cells.specs.Cells.{put_impulses, put_vel}
use Rattle.list_rules.specs.Sweep.{Tables, its_contact, if_there, outcome, step_on, vels_at}
use Rattle.list_rules.proofs.Steps.{bodies_written, floats_written}

-- a step that is done names a contact of the table, and is done on copies
done_if_there : (contacts : ℕ) (s : Step) (o : Outcome) (d : ContactSolved) → if_there contacts s o ≡ Done d → (s.contact < contacts) × (o ≡ Done d)
unfolding if_there
done_if_there contacts s o d e = by_case (ltb s.contact contacts) refl e
  where
    by_case : (b : Bool) → ltb s.contact contacts ≡ b → (if b then o otherwise Refused 2) ≡ Done d → (s.contact < contacts) × (o ≡ Done d)
    by_case true h e = (ltb-true s.contact contacts h, e)
    by_case false h e = not_both e

-- its contact stands in the row that it names
pub its_contact_lem : (s : Step) (t : Tables) → its_contact s t ≡ contact_at t.numbers t.floats s.contact
unfolding its_contact
its_contact_lem s t = refl

module _ (s : Step) (t : Tables) (d : ContactSolved) (done : outcome s t ≡ Done d) where
  -- its contact is in the table, and the step on copies is done
  pub done_there : (s.contact < rows floats_width t.floats)
      × (step (its_contact s t) s.kind (vels_at t.bodies (its_contact s t).head) (rows body_width t.bodies) ≡ Done d)
  unfolding outcome
  done_there =
      done_if_there (rows floats_width t.floats) s (step (its_contact s t) s.kind (vels_at t.bodies (its_contact s t).head) (rows body_width t.bodies)) d done

  -- its contact after it: the numbers as they were, the floats with its impulses
  pub contact_after : its_contact s (step_on s t).after ≡ contact_at t.numbers (put_impulses t.floats s.contact s.kind d.contact) s.contact
  unfolding its_contact step_on
  contact_after = sym (ap (λ l. contact_at t.numbers l s.contact) (floats_written s (outcome s t) d t.floats done refl))

  -- the bodies after it: both velocities written
  pub bodies_after : (step_on s t).after.bodies
      ≡ put_vel (put_vel t.bodies (its_contact s t).head.body1 d.vels.v1) (its_contact s t).head.body2 d.vels.v2
  unfolding step_on
  bodies_after = sym (bodies_written (its_contact s t).head (outcome s t) d t.bodies done refl refl)

-- the velocities of two bodies are as they are where each is
pub vels_are : (bodies : List Float) (h : ContactHead) {v : Vels} → vel_at bodies h.body1 ≡ v.v1 → vel_at bodies h.body2 ≡ v.v2 → vels_at bodies h ≡ v
unfolding vels_at
vels_are bodies h p q = rw (p, q)

-- each is what its body's row says
pub vels_of : (bodies : List Float) (h : ContactHead) → ((vels_at bodies h).v1 ≡ vel_at bodies h.body1) × ((vels_at bodies h).v2 ≡ vel_at bodies h.body2)
unfolding vels_at
vels_of bodies h = (refl, refl)
