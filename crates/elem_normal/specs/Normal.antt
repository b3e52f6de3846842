-- Document 01, "Arithmetic": what the rules do with one normal part. dir, im1 and im2 are the contact's, v the velocities
-- of its bodies. Which points are visited, and in which order, is the contact's matter. Assumes nothing.
use Rattle.std.specs.Prelude.{Float}
use Rattle.elem_leaves.specs.Floats.{◌+f◌, ◌-f◌, zero}
use Rattle.elem_leaves.specs.declared.Vec2.{Vec2}
use Rattle.elem_velocity.specs.Velocity.{dvel, push}
use Rattle.elem_velocity.specs.declared.Vels.{Vels}
use Rattle.elem_impulse.specs.Point.{normal_impulse, restitution_impulse}
use Rattle.elem_normal.specs.declared.ContactConstraintNormalPart.{ContactConstraintNormalPart}
use Rattle.elem_normal.specs.declared.NormalSolved.{NormalSolved}

-- the crate's zero(): every number is plus zero
unfoldable pub normal_zero : ContactConstraintNormalPart
normal_zero = record {
  torque_dir1 = zero;
  torque_dir2 = zero;
  ii_torque_dir1 = zero;
  ii_torque_dir2 = zero;
  rhs = zero;
  impulse = zero;
  impulse_accumulator = zero;
  r = zero;
  cfm_factor = zero;
  seed = zero;
}

-- what "store" leaves: the part with another impulse
unfoldable pub normal_with : ContactConstraintNormalPart → Float → ContactConstraintNormalPart
normal_with p n = record {
  torque_dir1 = p.torque_dir1;
  torque_dir2 = p.torque_dir2;
  ii_torque_dir1 = p.ii_torque_dir1;
  ii_torque_dir2 = p.ii_torque_dir2;
  rhs = p.rhs;
  impulse = n;
  impulse_accumulator = p.impulse_accumulator;
  r = p.r;
  cfm_factor = p.cfm_factor;
  seed = p.seed;
}

-- Warm start: push the part's impulse
unfoldable pub normal_warm : ContactConstraintNormalPart → Vec2 → Vec2 → Vec2 → Vels → Vels
normal_warm p dir im1 im2 v = push dir im1 im2 p.ii_torque_dir1 p.ii_torque_dir2 p.impulse v

-- push n − impulse; store n
unfoldable pub normal_moved : ContactConstraintNormalPart → Float → Vec2 → Vec2 → Vec2 → Vels → NormalSolved
normal_moved p n dir im1 im2 v = record {
  part = normal_with p n;
  vels = push dir im1 im2 p.ii_torque_dir1 p.ii_torque_dir2 (n -f p.impulse) v;
}

-- Normal: n = cfm·max0(impulse − r·dvel); push n − impulse; store n
unfoldable pub normal : ContactConstraintNormalPart → Vec2 → Vec2 → Vec2 → Vels → NormalSolved
normal p dir im1 im2 v =
    let n = normal_impulse p.cfm_factor p.impulse p.r (dvel dir p.torque_dir1 p.torque_dir2 p.rhs v) in
    normal_moved p n dir im1 im2 v

-- Restitution: dvel with seed for rhs; if seed < 0 and accumulator + impulse > 0, n = max0(impulse − r·dvel), without cfm;
-- else n = impulse. Push the difference, even when zero, and store
unfoldable pub restitution : ContactConstraintNormalPart → Vec2 → Vec2 → Vec2 → Vels → NormalSolved
restitution p dir im1 im2 v =
    let total = p.impulse_accumulator +f p.impulse in
    let n = restitution_impulse p.seed total p.impulse p.r (dvel dir p.torque_dir1 p.torque_dir2 p.seed v) in
    normal_moved p n dir im1 im2 v
