-- Document 01, "Arithmetic": the pair. Assumes nothing.
use Rattle.std.specs.Prelude.{Float}
use Rattle.std.specs.Float.Ieee.{neg}
use Rattle.elem_leaves.specs.Floats.{◌+f◌, ◌-f◌, ◌*f◌}
use Rattle.elem_leaves.specs.Leaves.{dot, vec}
use Rattle.elem_leaves.specs.declared.Vec2.{Vec2}
use Rattle.elem_velocity.specs.Velocity.{dvel, moved}
use Rattle.elem_velocity.specs.declared.Vels.{Vels}
use Rattle.elem_impulse.specs.Pair.{choice}
use Rattle.elem_impulse.specs.declared.PairChoice.{PairChoice}
use Rattle.elem_normal.specs.Normal.{normal_with}
use Rattle.elem_normal.specs.declared.ContactConstraintNormalPart.{ContactConstraintNormalPart}
use Rattle.elem_normal.specs.declared.PairSolved.{PairSolved}

-- each dvel is lin + t1·w1 + t2·w2 + rhs
unfoldable pub pair_dvel : Float → ContactConstraintNormalPart → Vels → Float
pair_dvel lin p v = lin +f p.torque_dir1 *f v.v1.angular +f p.torque_dir2 *f v.v2.angular +f p.rhs

-- lin = dot(dir, v1) − dot(dir, v2). The degraded dvel of a is dvel() in the single-point order
unfoldable pub pair_choice : ContactConstraintNormalPart → ContactConstraintNormalPart → Vec2 → Float → Float → Vels → PairChoice
pair_choice a b dir k12 flag v =
    let lin = dot dir v.v1.linear -f dot dir v.v2.linear in
    choice (vec (pair_dvel lin a v) (pair_dvel lin b v)) (dvel dir a.torque_dir1 a.torque_dir2 a.rhs v)
    (vec a.impulse b.impulse) a.r b.r k12 flag (vec a.cfm_factor b.cfm_factor)

-- x and y being the changes: v1 += (dir times im1)·(x + y); w1 += ii1a·x + ii1b·y;
-- v2 += (dir times im2)·(−x − y); w2 += ii2a·x + ii2b·y
unfoldable pub pair_push : ContactConstraintNormalPart → ContactConstraintNormalPart → Float → Float → Vec2 → Vec2 → Vec2 → Vels → Vels
pair_push a b x y dir im1 im2 v = record {
  v1 = moved v.v1 dir im1 (x +f y) (a.ii_torque_dir1 *f x +f b.ii_torque_dir1 *f y);
  v2 = moved v.v2 dir im2 (neg x -f y) (a.ii_torque_dir2 *f x +f b.ii_torque_dir2 *f y);
}

-- After the choice: store both impulses and push their changes
unfoldable pub pair_moved : ContactConstraintNormalPart → ContactConstraintNormalPart → PairChoice → Vec2 → Vec2 → Vec2 → Vels → PairSolved
pair_moved a b chosen dir im1 im2 v = record {
  a = normal_with a chosen.impulse.x;
  b = normal_with b chosen.impulse.y;
  vels = pair_push a b (chosen.impulse.x -f a.impulse) (chosen.impulse.y -f b.impulse) dir im1 im2 v;
  branch = chosen.branch;
}

unfoldable pub pair : ContactConstraintNormalPart → ContactConstraintNormalPart → Vec2 → Vec2 → Vec2 → Float → Float → Vels → PairSolved
pair a b dir im1 im2 k12 flag v = pair_moved a b (pair_choice a b dir k12 flag v) dir im1 im2 v
