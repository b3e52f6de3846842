-- The statements of specs/Needed.antt, by computing them. Assumes nothing.
use mathlib.Core.Path.{refl}
use lib.Ieee.{add, div, eq, is_nan, le, lt, mul, neg, of_bits, of_int, sub}
use Rattle.elem_leaves.specs.Leaves.{inv, max0}
use Rattle.elem_impulse.specs.Block.{a_only, alone, b_only, block_choice, both, candidates, first_passing, kept, neither, system}
use Rattle.elem_impulse.specs.Pair.{choice, degraded}
use Rattle.elem_impulse.specs.Point.{normal_impulse}
use Rattle.elem_marked.specs.Needed.{CanBeMet, Needed}

pub needed : Needed
unfolding choice degraded block_choice system candidates both alone a_only b_only neither first_passing kept normal_impulse inv max0 of_int of_bits neg add sub mul div lt le eq is_nan
needed = record { previous_a = refl; previous_b = refl; below = refl; nothing = refl; endless = refl }

pub can_be_met : CanBeMet
unfolding le lt eq of_bits
can_be_met = (refl, refl)
