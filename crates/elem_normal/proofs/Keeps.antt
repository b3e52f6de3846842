-- A routine leaves every number of a normal part as it was but the impulse: what it gives back is the old part with another impulse.
-- Assumes nothing.
use lib.Ieee.{Float}
use mathlib.Core.Path.{◌≡◌, refl}
use Rattle.elem_leaves.specs.declared.Vec2.{Vec2}
use Rattle.elem_velocity.specs.declared.Vels.{Vels}
use Rattle.elem_normal.specs.Normal.{normal, normal_moved, normal_with, restitution}
use Rattle.elem_normal.specs.Pair.{pair, pair_moved}
use Rattle.elem_normal.specs.declared.ContactConstraintNormalPart.{ContactConstraintNormalPart}

-- a part with another impulse, number by number
pub normal_with_lem : (p : ContactConstraintNormalPart) (x : Float) → normal_with p x ≡ record {
  torque_dir1 = p.torque_dir1;
  torque_dir2 = p.torque_dir2;
  ii_torque_dir1 = p.ii_torque_dir1;
  ii_torque_dir2 = p.ii_torque_dir2;
  rhs = p.rhs;
  impulse = x;
  impulse_accumulator = p.impulse_accumulator;
  r = p.r;
  cfm_factor = p.cfm_factor;
  seed = p.seed;
}
unfolding normal_with
normal_with_lem p x = refl

module _ (p : ContactConstraintNormalPart) (dir im1 im2 : Vec2) (v : Vels) where
  pub normal_keeps : (normal p dir im1 im2 v).part ≡ normal_with p (normal p dir im1 im2 v).part.impulse
  unfolding normal normal_moved normal_with
  normal_keeps = refl

  pub restitution_keeps : (restitution p dir im1 im2 v).part ≡ normal_with p (restitution p dir im1 im2 v).part.impulse
  unfolding restitution normal_moved normal_with
  restitution_keeps = refl

module _ (a b : ContactConstraintNormalPart) (dir im1 im2 : Vec2) (k12 flag : Float) (v : Vels) where
  pub pair_keeps : ((pair a b dir im1 im2 k12 flag v).a ≡ normal_with a (pair a b dir im1 im2 k12 flag v).a.impulse)
      × ((pair a b dir im1 im2 k12 flag v).b ≡ normal_with b (pair a b dir im1 im2 k12 flag v).b.impulse)
  unfolding pair pair_moved normal_with
  pair_keeps = (refl, refl)
