-- Document 01, "Tables": the floor's number, and a contact whose every number is zero. The shape of a contact stands in src/.
-- Assumes nothing.
use Rattle.std.specs.Prelude.{ℕ, Bool, eqb}
use Rattle.elem_leaves.specs.Floats.{zero}
use Rattle.elem_leaves.specs.Leaves.{vec}
use Rattle.elem_tangent.specs.Tangent.{tangent_zero}
use Rattle.elem_normal.specs.Normal.{normal_zero}
use Rattle.step_contact.specs.declared.Contact.{Contact}
use Rattle.step_contact.specs.declared.ContactHead.{ContactHead}
use Rattle.step_contact.specs.declared.ContactPoint.{ContactPoint}

-- Body number 65535 is the floor
abbrev pub is_floor : ℕ → Bool
is_floor body = eqb body 65535

-- the crate's zero() parts; every other number is zero
unfoldable pub head_zero : ContactHead
head_zero = record {
  body1 = 0;
  body2 = 0;
  count = 0;
  dir1 = vec zero zero;
  im1 = vec zero zero;
  im2 = vec zero zero;
  friction = zero;
  k12 = zero;
  flag = zero;
}

unfoldable pub point_zero : ContactPoint
point_zero = record { normal_part = normal_zero; tangent_part = tangent_zero }

unfoldable pub contact_zero : Contact
contact_zero = record { head = head_zero; a = point_zero; b = point_zero }
