-- The statements of specs/Marks.antt and specs/Errors.antt hold: the examples by computing them. Assumes nothing.
use mathlib.Core.Path.{◌≡◌, refl}
use mathlib.Core.Bool.{false}
use lib.Ieee.{add, sub, mul, div, neg, lt, le, eq, of_int, of_bits, to_bits}
use Rattle.elem_leaves.specs.Leaves.{dot, max0, clamp, inv}
use Rattle.elem_velocity.specs.Velocity.{dvel, moved, push, rest}
use Rattle.elem_impulse.specs.Block.{system, both, alone, a_only, b_only, neither, first_passing, candidates, kept, block_choice}
use Rattle.elem_impulse.specs.Pair.{choice, degraded}
use Rattle.elem_impulse.specs.Point.{normal_impulse, restitution_impulse}
use Rattle.elem_normal.specs.Normal.{normal_with, normal_moved, normal, restitution}
use Rattle.elem_normal.specs.Pair.{pair, pair_choice, pair_dvel, pair_moved}
use Rattle.elem_leaves.specs.Numbers.{num}
use Rattle.elem_marked.specs.Marks.{Marked, all, outcome, at_rest}
use Rattle.elem_marked.specs.Errors.{DegradedA, DegradedB, LinFirst, ZeroPush, point, up, ones, none, sinking, tiny, b_in_pair, b_by_kind_1}

pub marked : Marked
unfolding all outcome choice degraded block_choice system candidates both alone a_only b_only neither first_passing kept normal_impulse restitution restitution_impulse normal_moved
    normal_with rest dvel dot clamp inv max0 of_int of_bits to_bits neg add sub mul div lt le
marked = refl

pub degraded_a : DegradedA
unfolding pair pair_moved pair_choice choice degraded normal normal_moved normal_with
degraded_a a b dir im1 im2 k12 flag v h = rw h

-- kind 1 at point a brings the sinking body to rest
landed : (normal (point (num 0)) up ones none sinking).vels ≡ at_rest
unfolding normal normal_moved normal_impulse push moved rest dvel dot max0 of_int of_bits neg add sub mul div lt
landed = refl

in_pair : b_in_pair ≡ num 0
unfolding pair pair_moved pair_choice pair_dvel choice degraded normal_with normal_impulse rest dvel dot max0 of_int of_bits neg add sub mul div lt
in_pair = refl

from_rest : (normal (point (neg tiny)) up ones none at_rest).part.impulse ≡ tiny
unfolding normal normal_moved normal_with normal_impulse rest dvel dot max0 of_int of_bits neg add sub mul div lt
from_rest = refl

by_kind_1 : b_by_kind_1 ≡ tiny
by_kind_1 = rw (b_by_kind_1, landed) from_rest

apart : eq (num 0) tiny ≡ false
unfolding of_int of_bits div eq
apart = refl

pub degraded_b : DegradedB
degraded_b = (in_pair, by_kind_1, rw (in_pair, by_kind_1) apart)

pub lin_first : LinFirst
unfolding pair_dvel dvel dot of_int of_bits neg add sub mul div
lin_first = (refl, refl)

pub zero_push : ZeroPush
unfolding push moved rest of_int of_bits to_bits neg add sub mul
zero_push = (refl, refl)
