-- What a step's calls give, put together. Assumes nothing.
use Prim.Native.Nat.{ℕ}
use mathlib.Core.Bool.{Bool, true, false}
use mathlib.Core.List.{List}
use mathlib.Core.Logic.{◌≢◌}
use mathlib.Core.Path.{◌≡◌, refl}
use lib.Dec.{ltb}
use lib.Ieee.{Float}
use Rattle.base_places.specs.Places.{body_width, floats_width}
use Rattle.base_words.specs.Choice.{if◌then◌otherwise◌}
use Rattle.step_contact.specs.declared.ContactHead.{ContactHead}
use Rattle.step_kinds.specs.declared.ContactSolved.{ContactSolved}
use Rattle.step_rules.specs.Step.{Done, Outcome, Refused, answer, step}
use Rattle.base_rows.specs.Rows.{rows}
use Rattle.list_cells.specs.Cells.{put_impulses, put_vel}
use Rattle.list_tables.specs.declared.Step.{Step}
use Rattle.list_rules.specs.Sweep.{Tables, answered, its_contact, if_there, new_bodies, new_floats, outcome, step_on, tables, vels_at}

-- a refused step writes nothing
pub bodies_kept : (h : ContactHead) (o : Outcome) (n : ℕ) (bodies : List Float) → o ≡ Refused n → bodies ≡ new_bodies h o bodies
unfolding new_bodies
bodies_kept h o n bodies e = rw e

pub floats_kept : (s : Step) (o : Outcome) (n : ℕ) (floats : List Float) → o ≡ Refused n → floats ≡ new_floats s o floats
unfolding new_floats
floats_kept s o n floats e = rw e

-- a done step writes both velocities, and the impulses
pub bodies_written : (h : ContactHead) (o : Outcome) (d : ContactSolved) (bodies : List Float) {m l : List Float} → o ≡ Done d
    → m ≡ put_vel bodies h.body1 d.vels.v1 → l ≡ put_vel m h.body2 d.vels.v2 → l ≡ new_bodies h o bodies
unfolding new_bodies
bodies_written h o d bodies e p q = rw e (cc)

pub floats_written : (s : Step) (o : Outcome) (d : ContactSolved) (floats : List Float) {l : List Float} → o ≡ Done d
    → l ≡ put_impulses floats s.contact s.kind d.contact → l ≡ new_floats s o floats
unfolding new_floats
floats_written s o d floats e p = rw e p

-- what a step is answered: 2, where its contact is not there, else what the step on copies answers
pub number_of : (s : Step) (t : Tables) → (step_on s t).answer.number
    ≡ (if ltb s.contact (rows floats_width t.floats)
    then answer (step (its_contact s t) s.kind (vels_at t.bodies (its_contact s t).head) (rows body_width t.bodies)) otherwise 2)
unfolding step_on answered outcome if_there
number_of s t =
    by_case (ltb s.contact (rows floats_width t.floats)) (step (its_contact s t) s.kind (vels_at t.bodies (its_contact s t).head) (rows body_width t.bodies))
  where
    by_case : (b : Bool) (o : Outcome) → answer (if b then o otherwise Refused 2) ≡ (if b then answer o otherwise 2)
    by_case true o = refl
    by_case false o = refl

-- "a refused step changes nothing"
pub refused_keeps : (s : Step) (t : Tables) → (step_on s t).answer.number ≢ 0 → (step_on s t).after ≡ t
unfolding step_on answered new_bodies new_floats
refused_keeps s t refused = by_case (outcome s t) refused
  where
    by_case : (o : Outcome) → answer o ≢ 0
        → tables (new_bodies (its_contact s t).head o t.bodies) t.numbers (new_floats s o t.floats) ≡ t
    by_case (Refused n) ne = refl
    by_case (Done d) ne = absurd (ne refl)
