-- A step on the tables by what it was tried to, and that nothing has to be seen to on the floor's side: it reads as rest, and is not
-- written. Assumes nothing.
use Prim.Native.Nat.{ℕ}
use mathlib.Core.Bool.{Bool, true, false}
use mathlib.Core.List.{List}
use mathlib.Core.Path.{◌≡◌, refl, sym, ap, ◌∙◌}
use lib.Dec.{ltb}
use lib.Ieee.{Float}
use Rattle.base_places.specs.Places.{body_width, floats_width}
use Rattle.base_words.specs.Choice.{if◌then◌otherwise◌}
use Rattle.elem_velocity.specs.Velocity.{rest}
use Rattle.elem_velocity.specs.declared.SolverVel.{SolverVel}
use Rattle.elem_velocity.specs.declared.Vels.{Vels}
use Rattle.step_contact.specs.Contact.{is_floor}
use Rattle.step_contact.specs.declared.Contact.{Contact}
use Rattle.step_contact.specs.declared.ContactHead.{ContactHead}
use Rattle.step_rules.specs.Step.{Done, Outcome, Refused, as_read, as_written, reads, step, tried, writes, written_vels}
use Rattle.base_rows.specs.Rows.{rows}
use Rattle.list_tables.specs.Tables.{contact_at, vel_at}
use Rattle.list_tables.specs.declared.Step.{Step}
use Rattle.list_tables.proofs.Floats.{floor_rests}
use Rattle.list_cells.specs.Cells.{put_vel}
use Rattle.list_cells.specs.declared.Answer.{Answer}
use Rattle.list_rules.specs.Sweep.{answered, its_contact, if_there, new_bodies, new_floats, outcome, step_on, tables, vels_at}
use Rattle.quick_step.specs.Trusted.{turned_away}

-- the floor's side
reads_itself : (bodies : List Float) (body : ℕ) → reads body (vel_at bodies body) ≡ vel_at bodies body
unfolding reads
reads_itself bodies body = by_case (is_floor body) refl
  where
    by_case : (b : Bool) → is_floor body ≡ b → (if b then rest otherwise vel_at bodies body) ≡ vel_at bodies body
    by_case true e = sym (floor_rests bodies body e)
    by_case false e = refl

pub read_itself : (bodies : List Float) (h : ContactHead) → as_read h (vels_at bodies h) ≡ vels_at bodies h
unfolding as_read vels_at
read_itself bodies h = rw (reads_itself bodies h.body1, reads_itself bodies h.body2)

put_written : (l : List Float) (body : ℕ) (old new : SolverVel) → put_vel l body (writes body old new) ≡ put_vel l body new
unfolding put_vel writes
put_written l body old new = by_case (is_floor body) refl
  where
    by_case : (b : Bool) → is_floor body ≡ b → put_vel l body (if b then old otherwise new) ≡ put_vel l body new
    by_case true e = rw e
    by_case false e = refl

module _ (h : ContactHead) (v : Vels) where
  bodies_as_made : (o : Outcome) (bodies : List Float) → new_bodies h (as_written h v o) bodies ≡ new_bodies h o bodies
  unfolding new_bodies as_written written_vels
  bodies_as_made (Refused n) bodies = refl
  bodies_as_made (Done d) bodies =
      rw (put_written bodies h.body1 v.v1 d.vels.v1) (put_written (put_vel bodies h.body1 d.vels.v1) h.body2 v.v2 d.vels.v2)

  floats_as_made : (s : Step) (o : Outcome) (floats : List Float) → new_floats s (as_written h v o) floats ≡ new_floats s o floats
  unfolding new_floats as_written
  floats_as_made s (Refused n) floats = refl
  floats_as_made s (Done d) floats = refl

  answered_as_made : (o : Outcome) → answered (as_written h v o) ≡ answered o
  unfolding answered as_written
  answered_as_made (Refused n) = refl
  answered_as_made (Done d) = refl

  if_there_as_made : (n : ℕ) (s : Step) (o : Outcome) → if_there n s (as_written h v o) ≡ as_written h v (if_there n s o)
  unfolding if_there as_written
  if_there_as_made n s o = by_case (ltb s.contact n)
    where
      by_case : (b : Bool) → (if b then as_written h v o otherwise Refused 2) ≡ as_written h v (if b then o otherwise Refused 2)
      by_case true = refl
      by_case false = refl

-- a step: read, tried, asked whether its contact is there, written, answered
module _ (bodies : List Float) (numbers : List ℕ) (floats : List Float) (s : Step) where
  abbrev pub its : Contact
  its = contact_at numbers floats s.contact

  abbrev pub vels : Vels
  vels = vels_at bodies its.head

  abbrev pub raw : Outcome
  raw = if_there (rows floats_width floats) s (tried its s.kind vels (rows body_width bodies))

  outcome_is : outcome s (tables bodies numbers floats) ≡ as_written its.head vels raw
  unfolding outcome its_contact step
  outcome_is =
      ap (λ (w : Vels). if_there (rows floats_width floats) s (as_written its.head vels (tried its s.kind w (rows body_width bodies)))) (read_itself bodies its.head)
      ∙ if_there_as_made its.head vels (rows floats_width floats) s (tried its s.kind vels (rows body_width bodies))

  pub stepped : {o : Outcome} {b l : List Float} {a : Answer} → o ≡ raw → b ≡ new_bodies its.head o bodies → l ≡ new_floats s o floats → a ≡ answered o
      → record { answer = a; after = tables b numbers l } ≡ step_on s (tables bodies numbers floats)
  unfolding step_on its_contact
  stepped eo eb el ea =
      rw (
        outcome_is,
        answered_as_made its.head vels raw,
        bodies_as_made its.head vels raw bodies,
        floats_as_made its.head vels s raw floats,
      )
      (cc)

  pub away : (n : ℕ) → Refused n ≡ raw → turned_away n (tables bodies numbers floats) ≡ step_on s (tables bodies numbers floats)
  unfolding new_bodies new_floats answered
  away n e = stepped e refl refl refl
