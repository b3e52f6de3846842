-- The statements of specs/Pushing.antt: a part's new impulse is that of the plain floats. Assumes nothing.
use lib.Ieee.{Float}
use Rattle.elem_leaves.specs.Leaves.{vec}
use Rattle.elem_leaves.specs.Signs.{InUnit}
use Rattle.elem_leaves.specs.declared.Vec2.{Vec2}
use Rattle.elem_velocity.specs.declared.Vels.{Vels}
use Rattle.elem_impulse.specs.Pushing.{Made, Pushes}
use Rattle.elem_impulse.proofs.Pushing.{normals_push, pairs_push, restitutions_push}
use Rattle.elem_normal.specs.Normal.{normal, normal_moved, normal_with, restitution}
use Rattle.elem_normal.specs.Pair.{pair, pair_choice, pair_moved}
use Rattle.elem_normal.specs.Pushing.{PartsPush}
use Rattle.elem_normal.specs.declared.ContactConstraintNormalPart.{ContactConstraintNormalPart}

module _ (p : ContactConstraintNormalPart) (dir im1 im2 : Vec2) (v : Vels) where
  normal_pushes : InUnit p.cfm_factor → Made (normal p dir im1 im2 v).part.impulse
  unfolding normal normal_moved normal_with
  normal_pushes soft = normals_push p.cfm_factor _ _ _ soft

  restitution_pushes : Pushes p.impulse (restitution p dir im1 im2 v).part.impulse
  unfolding restitution normal_moved normal_with
  restitution_pushes = restitutions_push _ _ p.impulse _ _

pair_pushes : (a b : ContactConstraintNormalPart) (dir im1 im2 : Vec2) (k12 flag : Float) (v : Vels) → InUnit a.cfm_factor → InUnit b.cfm_factor
    → Pushes a.impulse (pair a b dir im1 im2 k12 flag v).a.impulse × Pushes b.impulse (pair a b dir im1 im2 k12 flag v).b.impulse
unfolding pair pair_moved pair_choice normal_with
pair_pushes a b dir im1 im2 k12 flag v soft-a soft-b =
    pairs_push (record {
      dvel = _;
      degraded_dvel = _;
      prev = vec a.impulse b.impulse;
      ra = a.r;
      rb = b.r;
      k12 = k12;
      flag = flag;
      cfm = vec a.cfm_factor b.cfm_factor;
    })
    (soft-a, soft-b)

pub parts_push : PartsPush
parts_push = record { normals = normal_pushes; restitutions = restitution_pushes; pairs = pair_pushes }
