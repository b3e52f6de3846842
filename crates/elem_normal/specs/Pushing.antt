-- Request E10, "Loads never pull", of the Rust's routines on normal parts: any parts and any velocities, non-finite ones included. Each statement is
-- proved in proofs/Pushing.antt. Assumes nothing.
use Rattle.std.specs.Prelude.{Float}
use Rattle.elem_leaves.specs.Signs.{InUnit}
use Rattle.elem_leaves.specs.declared.Vec2.{Vec2}
use Rattle.elem_velocity.specs.declared.Vels.{Vels}
use Rattle.elem_impulse.specs.Pushing.{Made, Pushes}
use Rattle.elem_normal.specs.Normal.{normal, restitution}
use Rattle.elem_normal.specs.Pair.{pair}
use Rattle.elem_normal.specs.declared.ContactConstraintNormalPart.{ContactConstraintNormalPart}

pub record PartsPush : Type 0 where
  -- a point by itself, whatever its impulse was
  pub normals : (p : ContactConstraintNormalPart) (dir im1 im2 : Vec2) (v : Vels) → InUnit p.cfm_factor → Made (normal p dir im1 im2 v).part.impulse
  -- a bounce, whatever cfm is: the old impulse, or 0 or above
  pub restitutions : (p : ContactConstraintNormalPart) (dir im1 im2 : Vec2) (v : Vels) → Pushes p.impulse (restitution p dir im1 im2 v).part.impulse
  -- a pair, the degraded way too
  pub pairs : (a b : ContactConstraintNormalPart) (dir im1 im2 : Vec2) (k12 flag : Float) (v : Vels) → InUnit a.cfm_factor → InUnit b.cfm_factor
      → Pushes a.impulse (pair a b dir im1 im2 k12 flag v).a.impulse × Pushes b.impulse (pair a b dir im1 im2 k12 flag v).b.impulse
