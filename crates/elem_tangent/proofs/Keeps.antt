-- Friction leaves every number of a tangent part as it was but the impulse: what it gives back is the old part with another impulse.
-- Assumes nothing.
use lib.Ieee.{Float}
use mathlib.Core.Path.{◌≡◌, refl}
use Rattle.elem_leaves.specs.declared.Vec2.{Vec2}
use Rattle.elem_velocity.specs.declared.Vels.{Vels}
use Rattle.elem_tangent.specs.Tangent.{friction, tangent_with}
use Rattle.elem_tangent.specs.declared.ContactConstraintTangentPart.{ContactConstraintTangentPart}

pub friction_keeps : (p : ContactConstraintTangentPart) (tangent im1 im2 : Vec2) (L : Float) (v : Vels)
    → (friction p tangent im1 im2 L v).part ≡ tangent_with p (friction p tangent im1 im2 L v).part.impulse
unfolding friction tangent_with
friction_keeps p tangent im1 im2 L v = refl

-- a part with another impulse, number by number
pub tangent_with_lem : (p : ContactConstraintTangentPart) (x : Float) → tangent_with p x ≡ record {
  torque_dir1 = p.torque_dir1;
  torque_dir2 = p.torque_dir2;
  ii_torque_dir1 = p.ii_torque_dir1;
  ii_torque_dir2 = p.ii_torque_dir2;
  rhs = p.rhs;
  impulse = x;
  impulse_accumulator = p.impulse_accumulator;
  r = p.r;
}
unfolding tangent_with
tangent_with_lem p x = refl
