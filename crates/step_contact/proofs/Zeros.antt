-- An empty point and an empty contact, from what the zeros of their parts ensure; it has no points. Assumes nothing.
use mathlib.Core.Path.{◌≡◌, refl}
use Rattle.step_contact.specs.Contact.{contact_zero, head_zero}

-- an empty contact has no points
pub zero_count : contact_zero.head.count ≡ 0
unfolding contact_zero head_zero
zero_count = refl

-- and joins a body with itself
pub zero_bodies : contact_zero.head.body1 ≡ contact_zero.head.body2
unfolding contact_zero head_zero
zero_bodies = refl
