-- Request E10, "passes its tests": a pair worked out for each test of a candidate that neither its impulses nor the marked examples show. Proved in
-- proofs/Tests.antt. Assumes nothing.
use Rattle.std.specs.Prelude.{◌≡◌}
use Rattle.elem_leaves.specs.Numbers.{minus, num}
use Rattle.elem_leaves.specs.Leaves.{vec}
use Rattle.elem_leaves.specs.declared.Vec2.{Vec2}
use Rattle.elem_impulse.specs.Pushing.{PairInput, pair_gives}
use Rattle.elem_impulse.specs.declared.Branch.TheVariants.{Neither, Kept}

abbrev pub ones : Vec2
ones = vec (num 1) (num 1)

-- r 1 and 1, k12 −2, cfm 1, flag 1: the determinant is −3
abbrev pub coupled : (dvel prev : Vec2) → PairInput
coupled dvel prev = record {
  dvel = dvel;
  degraded_dvel = num 0;
  prev = prev;
  ra = num 1;
  rb = num 1;
  k12 = minus 2;
  flag = num 1;
  cfm = ones;
}

pub record EachTest : Type 0 where
  -- "both" would be (2, 2), but det is not above 0
  pub det : (pair_gives (coupled (vec (num 2) (num 2)) (vec (num 0) (num 0)))).branch ≡ Neither
  -- "none" fits point b alone (b1 −1, b2 1), and point a alone
  pub none_a : (pair_gives (coupled (vec (minus 2) (num 0)) ones)).branch ≡ Kept
  pub none_b : (pair_gives (coupled (vec (num 0) (minus 2)) ones)).branch ≡ Kept
