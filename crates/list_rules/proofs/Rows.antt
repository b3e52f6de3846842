-- What an outcome does to each row of the tables: which stay, and what the others hang on. Assumes nothing.
use Prim.Native.Nat.{ℕ, ◌/◌, ◌<◌}
use mathlib.Core.Bool.{false}
use mathlib.Core.List.{List}
use mathlib.Core.Logic.{◌≢◌, ◌⊎◌, inl, inr}
use mathlib.Core.Path.{◌≡◌, refl, ◌∙◌, ap}
use lib.Ieee.{Float}
use Rattle.base_places.specs.Places.{body_width, floats_width}
use Rattle.step_contact.specs.Contact.{is_floor}
use Rattle.step_contact.specs.declared.ContactHead.{ContactHead}
use Rattle.step_kinds.specs.declared.ContactSolved.{ContactSolved}
use Rattle.step_rules.specs.Step.{Done, Outcome, Refused, step}
use Rattle.base_rows.specs.Rows.{row, rows}
use Rattle.list_tables.specs.declared.Step.{Step}
use Rattle.list_cells.specs.Cells.{put_vel}
use Rattle.list_cells.proofs.Written.{bodies_as_long, floats_as_long, impulses_elsewhere, impulses_local, vel_local, vel_stays}
use Rattle.list_rules.specs.Sweep.{Tables, its_contact, new_bodies, new_floats, outcome, step_on, vels_at}

module _ (h : ContactHead) where
  -- there are as many rows of bodies as there were
  pub bodies_as_many : (o : Outcome) (bodies : List Float) → rows body_width (new_bodies h o bodies) ≡ rows body_width bodies
  unfolding new_bodies
  bodies_as_many (Refused n) bodies = refl
  bodies_as_many (Done d) bodies =
      ap (λ (n : ℕ). n / 3) (bodies_as_long (put_vel bodies h.body1 d.vels.v1) h.body2 d.vels.v2 ∙ bodies_as_long bodies h.body1 d.vels.v1)

  -- a body's row stays, unless the step is done and the body is one of its two, in the table and not the floor
  pub body_stays : (o : Outcome) (bodies : List Float) (m : ℕ)
      → ((d : ContactSolved) → o ≡ Done d → (m ≡ h.body1) ⊎ (m ≡ h.body2) → is_floor m ≡ false → m < rows body_width bodies → ⊥)
      → row body_width m (new_bodies h o bodies) ≡ row body_width m bodies
  unfolding new_bodies
  body_stays (Refused n) bodies m other = refl
  body_stays (Done d) bodies m other =
      let first : List Float = put_vel bodies h.body1 d.vels.v1 in
      let many : rows body_width first ≡ rows body_width bodies = ap (λ (n : ℕ). n / 3) (bodies_as_long bodies h.body1 d.vels.v1) in
      vel_stays first h.body2 d.vels.v2 m (λ e real in_table. other d refl (inr e) real (rw many at in_table))
      ∙ vel_stays bodies h.body1 d.vels.v1 m (λ e real in_table. other d refl (inl e) real in_table)

  -- what it comes to hangs on what it was and on how many rows there are
  pub body_local : (o : Outcome) (bodies others : List Float) → rows body_width others ≡ rows body_width bodies → (m : ℕ) → row body_width m others ≡ row body_width m bodies
      → row body_width m (new_bodies h o others) ≡ row body_width m (new_bodies h o bodies)
  unfolding new_bodies
  body_local (Refused n) bodies others many m same = same
  body_local (Done d) bodies others many m same =
      let first : List Float → List Float = λ l. put_vel l h.body1 d.vels.v1 in
      let as_many : (l : List Float) → rows body_width (first l) ≡ rows body_width l = λ l. ap (λ (n : ℕ). n / 3) (bodies_as_long l h.body1 d.vels.v1) in
      vel_local (first bodies) h.body2 d.vels.v2 (first others) (rw (as_many others, as_many bodies) many) m
      (vel_local bodies h.body1 d.vels.v1 others many m same)

module _ (s : Step) where
  -- the same of the contacts' floats
  pub floats_as_many : (o : Outcome) (floats : List Float) → rows floats_width (new_floats s o floats) ≡ rows floats_width floats
  unfolding new_floats
  floats_as_many (Refused n) floats = refl
  floats_as_many (Done d) floats = ap (λ (n : ℕ). n / 45) (floats_as_long floats s.contact s.kind d.contact)

  pub contact_stays : (o : Outcome) (floats : List Float) (m : ℕ) → ((d : ContactSolved) → o ≡ Done d → m ≢ s.contact)
      → row floats_width m (new_floats s o floats) ≡ row floats_width m floats
  unfolding new_floats
  contact_stays (Refused n) floats m other = refl
  contact_stays (Done d) floats m other = impulses_elsewhere floats s.contact s.kind d.contact m (other d refl)

  pub contact_local : (o : Outcome) (floats others : List Float) → rows floats_width others ≡ rows floats_width floats → (m : ℕ) → row floats_width m others ≡ row floats_width m floats
      → row floats_width m (new_floats s o others) ≡ row floats_width m (new_floats s o floats)
  unfolding new_floats
  contact_local (Refused n) floats others many m same = same
  contact_local (Done d) floats others many m same = impulses_local floats s.contact s.kind d.contact others many m same

-- what stands in the tables after a step
module _ (s : Step) (t : Tables) where
  pub after_bodies : (step_on s t).after.bodies ≡ new_bodies (its_contact s t).head (outcome s t) t.bodies
  unfolding step_on
  after_bodies = refl

  pub after_floats : (step_on s t).after.floats ≡ new_floats s (outcome s t) t.floats
  unfolding step_on
  after_floats = refl

  pub after_numbers : (step_on s t).after.numbers ≡ t.numbers
  unfolding step_on
  after_numbers = refl

  -- where the step on copies comes to the same, so does the step
  pub same_outcome : (t' : Tables) → rows floats_width t'.floats ≡ rows floats_width t.floats
      → step (its_contact s t') s.kind (vels_at t'.bodies (its_contact s t').head) (rows body_width t'.bodies)
      ≡ step (its_contact s t) s.kind (vels_at t.bodies (its_contact s t).head) (rows body_width t.bodies)
      → outcome s t' ≡ outcome s t
  unfolding outcome
  same_outcome t' many same = rw (many, same)

  -- and so does its answer
  pub same_answer : (t' : Tables) → outcome s t' ≡ outcome s t → (step_on s t').answer ≡ (step_on s t).answer
  unfolding step_on
  same_answer t' same = rw same
