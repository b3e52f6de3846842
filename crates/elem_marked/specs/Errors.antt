-- Document 01, "Errors a porter would make": what the definitions say of each that is one of arithmetic.
-- (Testing "none" before "both" is M5.) Assumes nothing.
use Rattle.std.specs.Prelude.{◌≡◌, false, Float}
use Rattle.std.specs.Float.{binary32}
use Rattle.std.specs.Float.Ieee.{neg, eq, of_bits, to_bits}
use Rattle.elem_leaves.specs.Floats.{◌-f◌, ◌>f◌, half, zero}
use Rattle.elem_leaves.specs.Leaves.{dot, vec}
use Rattle.elem_leaves.specs.declared.Vec2.{Vec2}
use Rattle.elem_velocity.specs.Velocity.{dvel, push, rest}
use Rattle.elem_velocity.specs.declared.Vels.{Vels}
use Rattle.elem_normal.specs.Normal.{normal}
use Rattle.elem_normal.specs.Pair.{pair, pair_dvel}
use Rattle.elem_normal.specs.declared.ContactConstraintNormalPart.{ContactConstraintNormalPart}
use Rattle.elem_leaves.specs.Numbers.{minus, num}
use Rattle.elem_marked.specs.Parts.{part}

-- A degraded pair gives point a the impulse that kind 1 gives it, bit for bit
abbrev pub DegradedA : Type 0
DegradedA =
    (a b : ContactConstraintNormalPart) (dir im1 im2 : Vec2) (k12 flag : Float) (v : Vels) → (flag >f half) ≡ false
    → (pair a b dir im1 im2 k12 flag v).a.impulse ≡ (normal a dir im1 im2 v).part.impulse

-- 2 to the power of -30
abbrev pub tiny : Float
tiny = of_bits binary32 0x3080_0000

-- For point b this fails. A body of mass 1 sinks at speed 1 onto the floor, on two points; b's rhs asks for a little more than a's.
-- k12 is 1, which is just what a's impulse does to b, and still the two ways round differently: the pair gives b nothing, kind 1 gives it tiny.
abbrev pub point : Float → ContactConstraintNormalPart
point rhs = part (num 0) rhs (num 0) (num 0) (num 1) (num 1) (num 0)

abbrev pub up : Vec2
up = vec (num 0) (num 1)

abbrev pub ones : Vec2
ones = vec (num 1) (num 1)

abbrev pub none : Vec2
none = vec (num 0) (num 0)

abbrev pub sinking : Vels
sinking = record { v1 = record { linear = vec (num 0) (minus 1); angular = num 0 }; v2 = rest }

abbrev pub b_in_pair : Float
b_in_pair = (pair (point (num 0)) (point (neg tiny)) up ones none (num 1) (num 0) sinking).b.impulse

abbrev pub b_by_kind_1 : Float
b_by_kind_1 = (normal (point (neg tiny)) up ones none (normal (point (num 0)) up ones none sinking).vels).part.impulse

abbrev pub DegradedB : Type 0
DegradedB = (b_in_pair ≡ num 0) × (b_by_kind_1 ≡ tiny) × (eq b_in_pair b_by_kind_1 ≡ false)

-- Reusing lin-first dvel for degraded a differs in rounding: both bodies rise at speed 1 and the first turns a little
abbrev pub levered : ContactConstraintNormalPart
levered = part (num 1) (num 0) (num 0) (num 0) (num 1) (num 1) (num 0)

abbrev pub turning : Vels
turning = record { v1 = record { linear = up; angular = neg tiny }; v2 = record { linear = up; angular = num 0 } }

abbrev pub lin : Float
lin = dot up turning.v1.linear -f dot up turning.v2.linear

abbrev pub LinFirst : Type 0
LinFirst = (pair_dvel lin levered turning ≡ neg tiny) × (dvel up (num 1) (num 0) (num 0) turning ≡ num 0)

-- Skipping the push of a zero change would show: it turns a velocity of minus zero into plus zero
abbrev pub minus_zero : Vels
minus_zero = record { v1 = record { linear = vec (neg zero) (neg zero); angular = neg zero }; v2 = rest }

abbrev pub pushed_by_zero : Vels
pushed_by_zero = push up ones none (num 1) (num 1) zero minus_zero

abbrev pub ZeroPush : Type 0
ZeroPush = (to_bits binary32 minus_zero.v1.linear.y ≡ 0x8000_0000) × (to_bits binary32 pushed_by_zero.v1.linear.y ≡ 0)
