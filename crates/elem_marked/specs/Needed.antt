-- Request E10, "Loads never pull": each thing that it asks is needed, but of "at most 1" only that cfm is finite. A pair worked out in numbers
-- for each that is left out. Proved in proofs/Needed.antt. Assumes nothing.
use Rattle.std.specs.Prelude.{true, false, ◌≡◌, Float}
use Rattle.std.specs.Float.{binary32, inf}
use Rattle.std.specs.Float.Ieee.{is_nan, of_bits}
use Rattle.elem_leaves.specs.Floats.{below0, one}
use Rattle.elem_leaves.specs.Leaves.{vec}
use Rattle.elem_leaves.specs.Signs.{InUnit}
use Rattle.elem_leaves.specs.declared.Vec2.{Vec2}
use Rattle.elem_impulse.specs.Pushing.{PairInput, pair_gives}
use Rattle.elem_leaves.specs.Numbers.{minus, num}

-- M6 with other impulses and softness: r 1 and 1, k12 −2, dvel (−2, −2); the degraded dvel is 0
abbrev pub pair_with : (flag : Float) (prev cfm : Vec2) → PairInput
pair_with flag prev cfm = record {
  dvel = vec (minus 2) (minus 2);
  degraded_dvel = num 0;
  prev = prev;
  ra = num 1;
  rb = num 1;
  k12 = minus 2;
  flag = flag;
  cfm = cfm;
}

abbrev pub ones : Vec2
ones = vec (num 1) (num 1)

-- the new impulses of points a and b
abbrev pub at_a : PairInput → Float
at_a p = (pair_gives p).impulse.x

abbrev pub at_b : PairInput → Float
at_b p = (pair_gives p).impulse.y

pub record Needed : Type 0 where
  -- a previous impulse below 0: where no candidate passes it is kept, and pulls
  pub previous_a : below0 (at_a (pair_with (num 1) (vec (minus 1) (num 1)) ones)) ≡ true
  pub previous_b : below0 (at_b (pair_with (num 1) (vec (num 1) (minus 1)) ones)) ≡ true
  -- a cfm below 0: degraded, it turns a push into a pull
  pub below : below0 (at_a (pair_with (num 0) ones (vec (minus 1) (num 1)))) ≡ true
  -- a cfm of 0 makes a NaN of an infinite impulse, and an infinite cfm one of an impulse of 0: not below 0, but not 0 or above either
  pub nothing : is_nan (at_a (pair_with (num 0) (vec (inf false) (num 1)) (vec (num 0) (num 1)))) ≡ true
  pub endless : is_nan (at_a (pair_with (num 0) (vec (num 0) (num 1)) (vec (inf false) (num 1)))) ≡ true

-- and can be met: 1 is in (0, 1], and so is the smallest number of the format
abbrev pub CanBeMet : Type 0
CanBeMet = InUnit one × InUnit (of_bits binary32 1)
