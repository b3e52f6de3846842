-- The statement of specs/Tests.antt, by computing it. Assumes nothing.
use mathlib.Core.Path.{refl}
use lib.Ieee.{add, div, eq, le, lt, mul, neg, of_bits, of_int, sub}
use Rattle.elem_leaves.specs.Leaves.{inv}
use Rattle.elem_impulse.specs.Block.{a_only, alone, b_only, block_choice, both, candidates, first_passing, kept, neither, system}
use Rattle.elem_impulse.specs.Pair.{choice}
use Rattle.elem_impulse.specs.Tests.{EachTest}

pub each_test : EachTest
unfolding choice block_choice system candidates both alone a_only b_only neither first_passing kept inv of_int of_bits neg add sub mul div lt le eq
each_test = record { det = refl; none_a = refl; none_b = refl }
