-- The two places of a contact's points, so that what is said of points a and b is said once, over the place. For statements and proofs.
-- Assumes nothing.
use Rattle.std.specs.Prelude.{ℕ, zero, suc, Float}
use Rattle.step_contact.specs.declared.Contact.{Contact}
use Rattle.step_contact.specs.declared.ContactPoint.{ContactPoint}

pub data Place : Type 0 where
  at_a at_b : Place

-- a point is below count where its place's number is
abbrev pub number : Place → ℕ
number at_a = 0
number at_b = 1

abbrev pub point : Place → Contact → ContactPoint
point at_a c = c.a
point at_b c = c.b

-- what a contact's normal part pushes with there
abbrev pub load : Place → Contact → Float
load x c = (point x c).normal_part.impulse

-- point 0 is a, point 1 is b
abbrev pub place_of : ℕ → Place
place_of zero = at_a
place_of (suc p) = at_b
