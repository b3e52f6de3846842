-- Document 01, "Numbers that refuse" and "Tables": one step, as a function of a contact, a kind, the velocities of its two bodies and
-- the number of rows of the body table. Assumes nothing.
use Rattle.std.specs.Prelude.{ℕ, Bool, ◌||◌, List, [], ◌∷◌, Result, Ok, Err}
use Rattle.base_words.specs.Choice.{if◌then◌otherwise◌}
use Rattle.elem_impulse.specs.Block.{branch_word}
use Rattle.elem_velocity.specs.Velocity.{rest}
use Rattle.elem_velocity.specs.declared.SolverVel.{SolverVel}
use Rattle.elem_velocity.specs.declared.Vels.{Vels}
use Rattle.step_contact.specs.Contact.{is_floor}
use Rattle.step_kinds.specs.Table.{routine}
use Rattle.step_contact.specs.declared.Contact.{Contact}
use Rattle.step_contact.specs.declared.ContactHead.{ContactHead}
use Rattle.step_kinds.specs.declared.ContactSolved.{ContactSolved}
use Rattle.step_shape.specs.Shape.{kind_above, pair_of_one, wrong_bodies, wrong_count}
use Rattle.step_values.specs.Values.{not_finite, not_finite_vels, out_of_range, unwritable}
use Rattle.base_refusals.specs.Refusals.{Condition, ◌when◌}
use Rattle.base_refusals.specs.Numbers.{refusal_number}
use Rattle.base_refusals.specs.declared.Refusal.{Refusal}

-- what a step comes to: refused with its number, or done, with the branch, the new contact and the new velocities
pub data Outcome : Type 0 where
  Refused : ℕ → Outcome
  Done : ContactSolved → Outcome

-- what a function says of it
abbrev pub outcome_of : Result ContactSolved Refusal → Outcome
outcome_of (Ok s) = Done s
outcome_of (Err refusal) = Refused (refusal_number refusal)

-- Body number 65535 is the floor: it reads as zero velocity ..
unfoldable pub reads : ℕ → SolverVel → SolverVel
reads body v = if is_floor body then rest otherwise v

unfoldable pub as_read : ContactHead → Vels → Vels
as_read h v = record { v1 = reads h.body1 v.v1; v2 = reads h.body2 v.v2 }

-- .. and is never written
unfoldable pub writes : ℕ → SolverVel → SolverVel → SolverVel
writes body old new = if is_floor body then old otherwise new

unfoldable pub written_vels : ContactHead → Vels → Vels → Vels
written_vels h old new = record { v1 = writes h.body1 old.v1 new.v1; v2 = writes h.body2 old.v2 new.v2 }

unfoldable pub as_written : ContactHead → Vels → Outcome → Outcome
as_written h old (Refused number) = Refused number
as_written h old (Done s) = Done (record { branch = s.branch; contact = s.contact; vels = written_vels h old s.vels })

-- What a number's condition looks at: the contact alone, and how many rows of bodies there are; the step, that is its kind and the
-- velocities as they read, and so what the routine would write; or both, and then either half is enough
pub data Looks : Type 0 where
  at_contact : (Contact → ℕ → Bool) → Looks
  at_step : (Contact → ℕ → Vels → Bool) → Looks
  at_both : (Contact → ℕ → Bool) → (Contact → ℕ → Vels → Bool) → Looks

pub record Check : Type 0 where
  pub number : ℕ
  pub looks : Looks

infix 70 ◌looks◌
abbrev pub ◌looks◌ : ℕ → Looks → Check
n looks l = record { number = n; looks = l }

-- "Given exactly when", the one list of a step's numbers, in the order of judging. A kind above 4 is refused with the whole call, before
-- any step; 3 stands here so that a step of any kind is answered
unfoldable pub checks : List Check
checks =
    3 looks at_step (λ c kind v. kind_above kind)
    ∷ 5 looks at_contact (λ c rows. wrong_bodies c.head rows)
    ∷ 6 looks at_contact (λ c rows. wrong_count c.head)
    ∷ 7 looks at_step (λ c kind v. pair_of_one kind c.head)
    ∷ 8 looks at_both (λ c rows. not_finite c) (λ c kind v. not_finite_vels v)
    ∷ 9 looks at_contact (λ c rows. out_of_range c)
    ∷ 10 looks at_step (λ c kind v. unwritable kind (routine kind c v))
    ∷ []

-- whether a number's condition holds
unfoldable pub holds_of : Looks → Contact → ℕ → Vels → ℕ → Bool
holds_of (at_contact f) c kind v rows = f c rows
holds_of (at_step g) c kind v rows = g c kind v
holds_of (at_both f g) c kind v rows = f c rows || g c kind v

unfoldable pub asked : List Check → Contact → ℕ → Vels → ℕ → List Condition
asked [] c kind v rows = []
asked (k ∷ ks) c kind v rows = k.number when holds_of k.looks c kind v rows ∷ asked ks c kind v rows

-- the numbers of a step with their conditions; v is the velocities as they read
unfoldable pub conditions : Contact → ℕ → Vels → ℕ → List Condition
conditions c kind v rows = asked checks c kind v rows

-- the first condition that holds refuses the step; where none does, it is done
unfoldable pub first_or : List Condition → ContactSolved → Outcome
first_or [] done = Done done
first_or (c ∷ cs) done = if c.holds then Refused c.number otherwise first_or cs done

unfoldable pub tried : Contact → ℕ → Vels → ℕ → Outcome
tried c kind v rows = first_or (conditions c kind v rows) (routine kind c v)

-- a step works on copies of the two velocities, as they read
unfoldable pub step : Contact → ℕ → Vels → ℕ → Outcome
step c kind v rows = as_written c.head v (tried c kind (as_read c.head v) rows)

-- Answer 0 is success. A step answers its number and a branch: 0 for any refusal and for every kind but 4
abbrev pub answer : Outcome → ℕ
answer (Refused number) = number
answer (Done s) = 0

abbrev pub branch : Outcome → ℕ
branch (Refused number) = 0
branch (Done s) = branch_word s.branch
