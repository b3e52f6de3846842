-- Document 01, "Arithmetic": what the rules do with one tangent part. tangent, im1 and im2 are the contact's, v the velocities
-- of its bodies. Which points are visited, and in which order, is the contact's matter. Assumes nothing.
use Rattle.std.specs.Prelude.{Float}
use Rattle.elem_leaves.specs.Floats.{◌-f◌, ◌*f◌, zero}
use Rattle.elem_leaves.specs.Leaves.{clamp}
use Rattle.elem_leaves.specs.declared.Vec2.{Vec2}
use Rattle.elem_velocity.specs.Velocity.{dvel, push}
use Rattle.elem_velocity.specs.declared.Vels.{Vels}
use Rattle.elem_tangent.specs.declared.ContactConstraintTangentPart.{ContactConstraintTangentPart}
use Rattle.elem_tangent.specs.declared.TangentSolved.{TangentSolved}

-- the crate's zero(): every number is plus zero
unfoldable pub tangent_zero : ContactConstraintTangentPart
tangent_zero = record {
  torque_dir1 = zero;
  torque_dir2 = zero;
  ii_torque_dir1 = zero;
  ii_torque_dir2 = zero;
  rhs = zero;
  impulse = zero;
  impulse_accumulator = zero;
  r = zero;
}

-- what "store" leaves: the part with another impulse
unfoldable pub tangent_with : ContactConstraintTangentPart → Float → ContactConstraintTangentPart
tangent_with p n = record {
  torque_dir1 = p.torque_dir1;
  torque_dir2 = p.torque_dir2;
  ii_torque_dir1 = p.ii_torque_dir1;
  ii_torque_dir2 = p.ii_torque_dir2;
  rhs = p.rhs;
  impulse = n;
  impulse_accumulator = p.impulse_accumulator;
  r = p.r;
}

-- Warm start: push the part's impulse
unfoldable pub tangent_warm : ContactConstraintTangentPart → Vec2 → Vec2 → Vec2 → Vels → Vels
tangent_warm p tangent im1 im2 v = push tangent im1 im2 p.ii_torque_dir1 p.ii_torque_dir2 p.impulse v

-- Friction: n = clamp(impulse − r·dvel, L) with the tangent part; push and store
unfoldable pub friction : ContactConstraintTangentPart → Vec2 → Vec2 → Vec2 → Float → Vels → TangentSolved
friction p tangent im1 im2 L v =
    let n = clamp (p.impulse -f p.r *f dvel tangent p.torque_dir1 p.torque_dir2 p.rhs v) L in
    record {
      part = tangent_with p n;
      vels = push tangent im1 im2 p.ii_torque_dir1 p.ii_torque_dir2 (n -f p.impulse) v;
    }
