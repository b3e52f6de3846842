-- Document 01, "Numbers that refuse": the conditions of numbers 8, 9 and 10, which look at floats. c is the contact, h its head, v the
-- velocities of its bodies as they read, s what the routine made. Assumes nothing.
use Rattle.std.specs.Prelude.{ℕ, Bool, not, ◌&&◌, ◌||◌, ltb, Float}
use Rattle.std.specs.Float.Ieee.{ne}
use Rattle.base_order.specs.OneByOne.{any}
use Rattle.base_places.specs.Places.{cells}
use Rattle.base_places.specs.declared.Cell.{Cell}
use Rattle.elem_leaves.specs.Finite.{finite}
use Rattle.elem_leaves.specs.Floats.{below0, in_unit, zero}
use Rattle.elem_velocity.specs.declared.SolverVel.{SolverVel}
use Rattle.elem_velocity.specs.declared.Vels.{Vels}
use Rattle.elem_tangent.specs.declared.ContactConstraintTangentPart.{ContactConstraintTangentPart}
use Rattle.elem_normal.specs.declared.ContactConstraintNormalPart.{ContactConstraintNormalPart}
use Rattle.step_contact.specs.Contact.{is_floor}
use Rattle.step_contact.specs.Cells.{in_cell}
use Rattle.step_kinds.specs.Table.{stores}
use Rattle.step_contact.specs.declared.Contact.{Contact}
use Rattle.step_contact.specs.declared.ContactHead.{ContactHead}
use Rattle.step_contact.specs.declared.ContactPoint.{ContactPoint}
use Rattle.step_kinds.specs.declared.ContactSolved.{ContactSolved}

-- "points below count": whether a test holds at one of them, given whether it holds at a and at b
unfoldable pub below_count : ContactHead → Bool → Bool → Bool
below_count h at_a at_b = ltb 0 h.count && at_a || ltb 1 h.count && at_b

abbrev pub some_point : (ContactPoint → Bool) → Contact → Bool
some_point test c = below_count c.head (test c.a) (test c.b)

-- 8: "a contact float (head, or points below count) or a velocity of its bodies is not finite"
unfoldable pub finite_vel : SolverVel → Bool
finite_vel v = finite v.linear.x && finite v.linear.y && finite v.angular

unfoldable pub finite_head : ContactHead → Bool
finite_head h =
    finite h.dir1.x && finite h.dir1.y && finite h.im1.x && finite h.im1.y && finite h.im2.x && finite h.im2.y
    && finite h.friction && finite h.k12 && finite h.flag

unfoldable pub finite_normal : ContactConstraintNormalPart → Bool
finite_normal p =
    finite p.torque_dir1 && finite p.torque_dir2 && finite p.ii_torque_dir1 && finite p.ii_torque_dir2
    && finite p.rhs && finite p.impulse && finite p.impulse_accumulator && finite p.r
    && finite p.cfm_factor && finite p.seed

unfoldable pub finite_tangent : ContactConstraintTangentPart → Bool
finite_tangent p =
    finite p.torque_dir1 && finite p.torque_dir2 && finite p.ii_torque_dir1 && finite p.ii_torque_dir2
    && finite p.rhs && finite p.impulse && finite p.impulse_accumulator && finite p.r

unfoldable pub finite_point : ContactPoint → Bool
finite_point p = finite_normal p.normal_part && finite_tangent p.tangent_part

-- .. of the contact: its head, or a point below count
unfoldable pub not_finite : Contact → Bool
not_finite c = not (finite_head c.head) || some_point (λ p. not (finite_point p)) c

-- .. of the velocities of its bodies
unfoldable pub not_finite_vels : Vels → Bool
not_finite_vels v = not (finite_vel v.v1) || not (finite_vel v.v2)

-- 9: im, friction, r or a normal impulse is below 0; cfm not in (0, 1]; or a floor side has im or ii other than zero
unfoldable pub floor_moves : ℕ → Float → Float → Bool
floor_moves body x y = is_floor body && (ne x zero || ne y zero)

unfoldable pub head_out : ContactHead → Bool
head_out h =
    below0 h.im1.x || below0 h.im1.y || below0 h.im2.x || below0 h.im2.y || below0 h.friction
    || floor_moves h.body1 h.im1.x h.im1.y || floor_moves h.body2 h.im2.x h.im2.y

unfoldable pub point_out : ContactHead → ContactPoint → Bool
point_out h p =
    let n = p.normal_part in
    let t = p.tangent_part in
    below0 n.r || below0 t.r || below0 n.impulse || not (in_unit n.cfm_factor)
    || floor_moves h.body1 n.ii_torque_dir1 t.ii_torque_dir1
    || floor_moves h.body2 n.ii_torque_dir2 t.ii_torque_dir2

unfoldable pub out_of_range : Contact → Bool
out_of_range c = head_out c.head || some_point (point_out c.head) c

-- 10: a velocity of a real body or an impulse to be written is not finite
abbrev pub lost_vel : ℕ → SolverVel → Bool
lost_vel body v = not (is_floor body) && not (finite_vel v)

-- of the cells that the kind stores
abbrev pub lost_cell : ℕ → ContactPoint → Cell → Bool
lost_cell kind p c = stores kind c && not (finite (in_cell c p))

unfoldable pub lost_impulse : ℕ → ContactPoint → Bool
lost_impulse kind p = any (lost_cell kind p) cells

unfoldable pub unwritable : ℕ → ContactSolved → Bool
unwritable kind s =
    lost_vel s.contact.head.body1 s.vels.v1 || lost_vel s.contact.head.body2 s.vels.v2
    || some_point (lost_impulse kind) s.contact
