-- Document 01, "Arithmetic": dvel and push, on the velocities v1, w1 and v2, w2 of a contact's two bodies. Assumes nothing.
use Rattle.std.specs.Prelude.{Float}
use Rattle.std.specs.Float.Ieee.{neg}
use Rattle.elem_leaves.specs.Floats.{◌+f◌, ◌-f◌, ◌*f◌, zero}
use Rattle.elem_leaves.specs.Leaves.{dot, vec}
use Rattle.elem_leaves.specs.declared.Vec2.{Vec2}
use Rattle.elem_velocity.specs.declared.SolverVel.{SolverVel}
use Rattle.elem_velocity.specs.declared.Vels.{Vels}

-- zero velocity: every number is plus zero
unfoldable pub rest : SolverVel
rest = record { linear = vec zero zero; angular = zero }

-- dvel(d, t1, t2, rhs) = dot(d, v1) + t1·w1 − dot(d, v2) + t2·w2 + rhs
unfoldable pub dvel : Vec2 → Float → Float → Float → Vels → Float
dvel d t1 t2 rhs v =
    dot d v.v1.linear +f t1 *f v.v1.angular -f dot d v.v2.linear +f t2 *f v.v2.angular +f rhs

-- one body's share of a push: v += (d times im by component)·l; w += turn
unfoldable pub moved : SolverVel → Vec2 → Vec2 → Float → Float → SolverVel
moved v d im l turn = record {
  linear = vec (v.linear.x +f d.x *f im.x *f l) (v.linear.y +f d.y *f im.y *f l);
  angular = v.angular +f turn;
}

-- push(d, part, l): v1 += (d times im1 by component)·l; w1 += ii1·l;
-- v2 += (d times im2 by component)·(−l); w2 += ii2·l. Of the part it takes ii1 and ii2.
unfoldable pub push : Vec2 → Vec2 → Vec2 → Float → Float → Float → Vels → Vels
push d im1 im2 ii1 ii2 l v = record {
  v1 = moved v.v1 d im1 l (ii1 *f l);
  v2 = moved v.v2 d im2 (neg l) (ii2 *f l);
}
