-- That the order of two steps that share a body matters: a foot comes down on heel and toe, and the two normal solves are worked out in
-- both orders. Proved in proofs/Witness.antt. Assumes nothing.
use Rattle.std.specs.Prelude.{List, [], ◌∷◌, ◌++◌, ◌≢◌, ◌≡◌, Float}
use Rattle.std.specs.Float.{binary32}
use Rattle.std.specs.Float.Ieee.{of_bits}
use Rattle.elem_leaves.specs.Floats.{half, one, zero}
use Rattle.list_tables.specs.Tables.{step_as}
use Rattle.list_tables.specs.declared.Step.{Step}
use Rattle.base_order.specs.OneByOne.{finish}
use Rattle.base_order.specs.Reordered.{Reordered}
use Rattle.list_rules.specs.Sweep.{Tables, step_on, tables}
use Rattle.list_sharing.specs.Sharing.{Shares}

abbrev pub minus_one : Float
minus_one = of_bits binary32 0xbf80_0000

abbrev pub minus_half : Float
minus_half = of_bits binary32 0xbf00_0000

-- eight zeros, for the numbers that say nothing here
abbrev pub zeros : List Float
zeros = zero ∷ zero ∷ zero ∷ zero ∷ zero ∷ zero ∷ zero ∷ zero ∷ []

-- a contact of one point that pushes a foot of mass 1 straight up off the floor: its arm, 1 / (1 + arm²), and its load. First the head's
-- 9 floats, then a's normal part, then a's tangent part and point b
abbrev pub pushing_up : Float → Float → Float → List Float
pushing_up arm r load =
    zero ∷ one ∷ one ∷ one ∷ zero ∷ zero ∷ zero ∷ zero ∷ zero
    ∷ arm ∷ zero ∷ arm ∷ zero ∷ zero ∷ load ∷ zero ∷ r ∷ one ∷ zero
    ∷ zeros ++ zeros ++ zeros ++ zero ∷ zero ∷ []

-- one foot, body 0, its heel behind its middle (contact 0) and its toe right under it (contact 1), both on the floor: how fast it moves
-- up and turns, and the loads of heel and toe
abbrev pub foot : Float → Float → Float → Float → Tables
foot up turn heel-load toe-load =
    tables (zero ∷ up ∷ turn ∷ []) (0 ∷ 65535 ∷ 1 ∷ 0 ∷ 65535 ∷ 1 ∷ []) (pushing_up minus_one half heel-load ++ pushing_up zero one toe-load)

abbrev pub falling : Tables
falling = foot minus_one zero zero zero

-- the normal solve of each
abbrev pub heel : Step
heel = step_as 0 1

abbrev pub toe : Step
toe = step_as 1 1

pub record OrderMatters : Type 0 where
  -- they share the foot
  pub shared : Shares falling heel toe
  -- heel first: each bears half, and the foot ends turning
  pub heel_first : finish step_on (heel ∷ toe ∷ []) falling ≡ foot zero minus_half half half
  -- toe first: the toe bears it all, the heel never touches the floor, and the foot ends at rest
  pub toe_first : finish step_on (toe ∷ heel ∷ []) falling ≡ foot zero zero zero one
  pub not_the_same : foot zero minus_half half half ≢ foot zero zero zero one
  -- so the one list is no reordering of the other
  pub no_matching : ¬ Reordered (Shares falling) (step_as 0 0) (heel ∷ toe ∷ []) (toe ∷ heel ∷ [])
