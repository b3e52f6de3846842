-- Document 01, "Marked examples, both sides of each edge": M1 to M12, a single table and a single statement that covers its rows.
-- Assumes nothing.
use Rattle.std.specs.Prelude.{ℕ, ◌≡◌, Bool, true, false, ◌&&◌, List, [], ◌∷◌, eqb, Float}
use Rattle.std.specs.Float.{binary32}
use Rattle.std.specs.Float.Ieee.{to_bits}
use Rattle.elem_leaves.specs.Floats.{◌/f◌, half}
use Rattle.elem_leaves.specs.Leaves.{clamp, inv, vec}
use Rattle.elem_leaves.specs.declared.Vec2.{Vec2}
use Rattle.elem_velocity.specs.Velocity.{rest}
use Rattle.elem_velocity.specs.declared.Vels.{Vels}
use Rattle.elem_impulse.specs.Block.{branch_number}
use Rattle.elem_impulse.specs.declared.PairChoice.{PairChoice}
use Rattle.elem_impulse.specs.Pair.{choice}
use Rattle.elem_impulse.specs.Point.{normal_impulse}
use Rattle.elem_normal.specs.Normal.{restitution}
use Rattle.elem_leaves.specs.Numbers.{minus, num}
use Rattle.elem_marked.specs.Parts.{part}

-- what a row gives the definitions, and what it says of the result
pub data Given : Type 0 where
  pair_of : (dvel : Vec2) (degraded_dvel : Float) (previous : Vec2) (ra rb k12 flag : Float) → Given
  inv_of : Float → Given
  clamp_of : Float → Float → Given
  normal_of : (impulse r cfm dvel : Float) → Given
  restitution_of : (seed impulse accumulator r : Float) → Given

pub data Result : Type 0 where
  number : Float → Result
  impulses : (branch : ℕ) → Float → Float → Result

-- "1 both, 2 a only, 3 b only, 4 none, 5 previous kept, 6 degraded": the numbers themselves, so that the table holds the definition to them
abbrev pub both : ℕ
both = 1

abbrev pub a_only : ℕ
a_only = 2

abbrev pub b_only : ℕ
b_only = 3

abbrev pub none : ℕ
none = 4

abbrev pub previous_kept : ℕ
previous_kept = 5

abbrev pub degraded : ℕ
degraded = 6

abbrev pub chosen : PairChoice → Result
chosen c = impulses (branch_number c.branch) c.impulse.x c.impulse.y

abbrev pub at_rest : Vels
at_rest = record { v1 = rest; v2 = rest }

-- what the definitions give. Every pair here has cfm 1; restitution has cfm a half, which it is not to use.
unfoldable pub outcome : Given → Result
outcome (pair_of dvel degraded_dvel previous ra rb k12 flag) = chosen (choice dvel degraded_dvel previous ra rb k12 flag (vec (num 1) (num 1)))
outcome (inv_of x) = number (inv x)
outcome (clamp_of x L) = number (clamp x L)
outcome (normal_of impulse r cfm dvel) = number (normal_impulse cfm impulse r dvel)
outcome (restitution_of seed impulse accumulator r) =
    let point = part (num 0) (num 0) impulse accumulator r half seed in
    number (restitution point (vec (num 0) (num 1)) (vec (num 1) (num 1)) (vec (num 1) (num 1)) at_rest).part.impulse

-- an example: what is given, and the result
infix 3 ◌gives◌
pub record Example : Type 0 where
  pub given : Given
  pub result : Result

abbrev pub ◌gives◌ : Given → Result → Example
g gives r = record { given = g; result = r }

-- "Pairs use p = q = 0, cfm 1, r_a 0.5, r_b 1, k12 1, flag 1 unless said"
abbrev pub pair_at : Float → Float → Given
pair_at a b = pair_of (vec a b) a (vec (num 0) (num 0)) half (num 1) (num 1) (num 1)

-- a row of the table: its mark and its examples
pub record Row : Type 0 where
  pub mark : ℕ
  pub examples : List Example

abbrev pub M : ℕ → List Example → Row
M n examples = record { mark = n; examples = examples }

abbrev pub marks : List Row
marks =
    M 1 ((pair_at (minus 5) (minus 3) gives impulses both (num 2) (num 1)) ∷ []) ∷
    M 2 ((pair_at (minus 4) (minus 1) gives impulses a_only (num 2) (num 0)) ∷ []) ∷
    M 3 ((pair_at (minus 1) (minus 3) gives impulses b_only (num 0) (num 3)) ∷ []) ∷
    M 4 ((pair_at (num 1) (num 1) gives impulses none (num 0) (num 0)) ∷ []) ∷
    M 5 ((pair_at (num 0) (num 0) gives impulses both (num 0) (num 0)) ∷ []) ∷
    -- r 1 and 1, k12 −2, p = q = 1, (−2, −2)
    M 6 ((pair_of (vec (minus 2) (minus 2)) (minus 2) (vec (num 1) (num 1)) (num 1) (num 1) (minus 2) (num 1) gives impulses previous_kept (num 1) (num 1)) ∷ []) ∷
    -- flag 0.5, (−5, −3), degraded −5
    M 7 ((pair_of (vec (minus 5) (minus 3)) (minus 5) (vec (num 0) (num 0)) half (num 1) (num 1) half
    gives impulses degraded (num 5 /f num 2) half) ∷ []) ∷
    M 8 ((inv_of (num 0) gives number (num 0)) ∷ (inv_of (minus 4) gives number (minus 1 /f num 4)) ∷ []) ∷
    M 9 ((clamp_of (minus 3) (num 1) gives number (minus 1)) ∷ (clamp_of (num 1) (num 1) gives number (num 1)) ∷ []) ∷
    M 10 ((normal_of (num 0) (num 1) half (minus 2) gives number (num 1)) ∷ []) ∷
    M 11 ((restitution_of (minus 1) (num 0) (num 1) (num 1) gives number (num 1)) ∷ []) ∷
    M 12 ((restitution_of (minus 1) (num 0) (num 0) (num 1) gives number (num 0)) ∷ []) ∷ []

-- the same number, bit for bit
abbrev pub same : Float → Float → Bool
same x y = eqb (to_bits binary32 x) (to_bits binary32 y)

abbrev pub agree : Result → Result → Bool
agree (number x) (number y) = same x y
agree (number x) (impulses branch y z) = false
agree (impulses branch x y) (number z) = false
agree (impulses branch x y) (impulses branch' x' y') = eqb branch branch' && same x x' && same y y'

unfoldable pub all : {A : Type 0} → (A → Bool) → List A → Bool
all test [] = true
all test (x ∷ xs) = test x && all test xs

abbrev pub holds : Example → Bool
holds x = agree (outcome x.given) x.result

abbrev pub row_holds : Row → Bool
row_holds row = all holds row.examples

-- every row's result is what the definitions give
abbrev pub Marked : Type 0
Marked = all row_holds marks ≡ true
