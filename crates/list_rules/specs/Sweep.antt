-- Document 01, "Tables" and "Numbers that refuse": one step on the tables, and a list of steps, one by one. Assumes nothing.
use Rattle.std.specs.Prelude.{ℕ, zero, suc, Bool, not, List, [], ◌∷◌, ◌++◌, eqb, ltb, Float}
use Rattle.base_places.specs.Places.{body_width, floats_width, step_width}
use Rattle.base_words.specs.Choice.{if◌then◌otherwise◌}
use Rattle.elem_velocity.specs.declared.Vels.{Vels}
use Rattle.step_contact.specs.declared.Contact.{Contact}
use Rattle.step_contact.specs.declared.ContactHead.{ContactHead}
use Rattle.base_refusals.specs.Refusals.{Condition, ◌when◌}
use Rattle.step_rules.specs.Step.{Done, Outcome, Refused, answer, as_read, branch, conditions, step}
use Rattle.base_rows.specs.Rows.{rows}
use Rattle.list_tables.specs.Tables.{contact_at, step_at, vel_at}
use Rattle.list_cells.specs.Cells.{put_answer, put_impulses, put_vel}
use Rattle.list_cells.specs.declared.Answer.{Answer}
use Rattle.list_tables.specs.declared.Step.{Step}
use Rattle.base_order.specs.OneByOne.{Stepped, answers, count, finish}

-- the body table; the contact table, in two stretches: numbers, which no step writes, and floats
pub record Tables : Type 0 where
  pub bodies : List Float
  pub numbers : List ℕ
  pub floats : List Float

abbrev pub tables : List Float → List ℕ → List Float → Tables
tables bodies numbers floats = record { bodies = bodies; numbers = numbers; floats = floats }

-- "Every routine works on copies of the two velocities": those of a contact's bodies
unfoldable pub vels_at : List Float → ContactHead → Vels
vels_at bodies h = record { v1 = vel_at bodies h.body1; v2 = vel_at bodies h.body2 }

-- 2: a step names a contact not in the contact table, which has this many rows. The call refuses such a list before any step; 2
-- stands here so that a step by itself is answered
unfoldable pub if_there : ℕ → Step → Outcome → Outcome
if_there contacts s o = if ltb s.contact contacts then o otherwise Refused 2

-- "this step; no body or contact changes" if it is refused; a done step writes the velocities of its bodies ..
unfoldable pub new_bodies : ContactHead → Outcome → List Float → List Float
new_bodies h (Refused number) bodies = bodies
new_bodies h (Done s) bodies = put_vel (put_vel bodies h.body1 s.vels.v1) h.body2 s.vels.v2

-- .. and the impulses that its kind stores
unfoldable pub new_floats : Step → Outcome → List Float → List Float
new_floats s (Refused number) floats = floats
new_floats s (Done d) floats = put_impulses floats s.contact s.kind d.contact

-- the contact that a step names
unfoldable pub its_contact : Step → Tables → Contact
its_contact s t = contact_at t.numbers t.floats s.contact

unfoldable pub outcome : Step → Tables → Outcome
outcome s t =
    let c = its_contact s t in
    if_there (rows floats_width t.floats) s (step c s.kind (vels_at t.bodies c.head) (rows body_width t.bodies))

-- its numbers with their conditions, in the order of judging: 2, then those of the step on copies
unfoldable pub of_step : Step → Tables → List Condition
of_step s t =
    let c = its_contact s t in
    2 when not (ltb s.contact (rows floats_width t.floats))
    ∷ conditions c s.kind (as_read c.head (vels_at t.bodies c.head)) (rows body_width t.bodies)

-- "A step answers its number and a branch"
unfoldable pub answered : Outcome → Answer
answered o = record { number = answer o; branch = branch o }

-- one step on the tables
unfoldable pub step_on : Step → Tables → Stepped Answer Tables
step_on s t = record {
  answer = answered (outcome s t);
  after = tables (new_bodies (its_contact s t).head (outcome s t) t.bodies) t.numbers (new_floats s (outcome s t) t.floats);
}

-- the first n steps of a list, or all that it has
unfoldable pub first_steps : List ℕ → ℕ → List Step
first_steps steps zero = []
first_steps steps (suc n) =
    if ltb n (rows step_width steps) then first_steps steps n ++ (step_at steps n ∷ []) otherwise first_steps steps n

-- each answer in its row of the room, from row i on; all other room isn't touched
unfoldable pub laid : ℕ → List Answer → List ℕ → List ℕ
laid i [] room = room
laid i (a ∷ l) room = laid (suc i) l (put_answer room i a)

-- "Answer 0 is success"
abbrev pub is_refused : Answer → Bool
is_refused a = not (eqb a.number 0)

-- what a list leaves: the tables, the room for answers, and how many steps were refused
pub record Swept : Type 0 where
  pub tables : Tables
  pub room : List ℕ
  pub refused : ℕ

abbrev pub swept : Tables → List ℕ → ℕ → Swept
swept t room refused = record { tables = t; room = room; refused = refused }

-- the first n steps, or all that there are, one by one
unfoldable pub sweep : List ℕ → ℕ → Tables → List ℕ → Swept
sweep steps n t room =
    let given = answers step_on (first_steps steps n) t in
    swept (finish step_on (first_steps steps n) t) (laid 0 given room) (count is_refused given)
