-- Document 01, "Arithmetic": the block choice, and the branch numbers of "Numbers that refuse". Assumes nothing.
use Rattle.std.specs.Prelude.{ℕ, Bool, Option, None, Some, ◌&&◌, List, [], ◌∷◌, Float}
use Rattle.std.specs.Bool.{then_some}
use Rattle.std.specs.Float.Ieee.{neg}
use Rattle.base_words.specs.Choice.{if◌then◌otherwise◌}
use Rattle.elem_leaves.specs.Floats.{◌+f◌, ◌-f◌, ◌*f◌, ◌>f◌, ◌≥f◌, zero}
use Rattle.elem_leaves.specs.Leaves.{inv, vec}
use Rattle.elem_leaves.specs.declared.Vec2.{Vec2}
use Rattle.elem_impulse.specs.declared.Branch.{Branch}
use Rattle.elem_impulse.specs.declared.Branch.TheVariants.{Both, OnlyA, OnlyB, Neither, Kept, Degraded}
use Rattle.elem_impulse.specs.declared.PairChoice.{PairChoice}
use Rattle.elem_impulse.specs.declared.System.{System}

-- for a done kind 4: 1 both, 2 a only, 3 b only, 4 none, 5 previous kept, 6 degraded
abbrev pub branch_number : Branch → ℕ
branch_number Both = 1
branch_number OnlyA = 2
branch_number OnlyB = 3
branch_number Neither = 4
branch_number Kept = 5
branch_number Degraded = 6

-- and for every other kind 0, since it has no branch
abbrev pub branch_word : Option Branch → ℕ
branch_word None = 0
branch_word (Some branch) = branch_number branch

-- one point pushing alone, and whether it may
pub record OnePoint : Type 0 where
  pub passes : Bool
  pub impulse : Float

-- a way to solve the pair, and whether it is allowed
pub record Candidate : Type 0 where
  pub passes : Bool
  pub choice : PairChoice

-- what is left of each where it passes: the code has nothing else of it
abbrev pub pushing : OnePoint → Option Float
pushing p = then_some p.passes p.impulse

abbrev pub passing : Candidate → Option PairChoice
passing c = then_some c.passes c.choice

-- the impulses of a and b, and the branch
abbrev pub chose : Branch → Float → Float → PairChoice
chose branch x y = record { branch = branch; impulse = vec x y }

-- k11 = inv(r_a), k22 = inv(r_b); b1 = dvel_a − k11·p − k12·q, b2 = dvel_b − k12·p − k22·q
-- (p, q previous impulses); kp11 = k11·inv(cfm_a), kp22 likewise
unfoldable pub system : Vec2 → Vec2 → Float → Float → Float → Vec2 → System
system dvel prev ra rb k12 cfm =
    let k11 = inv ra in
    let k22 = inv rb in
    record {
      b1 = dvel.x -f k11 *f prev.x -f k12 *f prev.y;
      b2 = dvel.y -f k12 *f prev.x -f k22 *f prev.y;
      k12 = k12;
      kp11 = k11 *f inv cfm.x;
      kp22 = k22 *f inv cfm.y;
    }

-- det = kp11·kp22 − k12·k12; f = inv(det).
-- Both: ((k12·b2 − kp22·b1)·f, (k12·b1 − kp11·b2)·f), passing if det > 0 and each is ≥ 0
unfoldable pub both : System → Candidate
both s =
    let det = s.kp11 *f s.kp22 -f s.k12 *f s.k12 in
    let f = inv det in
    let x = (s.k12 *f s.b2 -f s.kp22 *f s.b1) *f f in
    let y = (s.k12 *f s.b1 -f s.kp11 *f s.b2) *f f in
    record { passes = (det >f zero) && (x ≥f zero) && (y ≥f zero); choice = chose Both x y }

-- A only: x = −b1·inv(kp11), passing if x ≥ 0 and b2 + k12·x ≥ 0; b only likewise, with the two points' numbers changed over
unfoldable pub alone : Float → Float → Float → Float → OnePoint
alone b kp other k12 =
    let x = neg b *f inv kp in
    record { passes = (x ≥f zero) && (other +f k12 *f x ≥f zero); impulse = x }

unfoldable pub a_only : System → Candidate
a_only s =
    let x = alone s.b1 s.kp11 s.b2 s.k12 in
    record { passes = x.passes; choice = chose OnlyA x.impulse zero }

unfoldable pub b_only : System → Candidate
b_only s =
    let y = alone s.b2 s.kp22 s.b1 s.k12 in
    record { passes = y.passes; choice = chose OnlyB zero y.impulse }

-- None: passing if b1 ≥ 0 and b2 ≥ 0
unfoldable pub neither : System → Candidate
neither s = record { passes = (s.b1 ≥f zero) && (s.b2 ≥f zero); choice = chose Neither zero zero }

-- First passing wins
unfoldable pub first_passing : List Candidate → PairChoice → PairChoice
first_passing [] none_passed = none_passed
first_passing (c ∷ cs) none_passed = if c.passes then c.choice otherwise first_passing cs none_passed

unfoldable pub candidates : System → List Candidate
candidates s = both s ∷ a_only s ∷ b_only s ∷ neither s ∷ []

-- if none passes, (p, q)
unfoldable pub kept : Vec2 → PairChoice
kept prev = record { branch = Kept; impulse = prev }

unfoldable pub block_choice : Vec2 → Vec2 → Float → Float → Float → Vec2 → PairChoice
block_choice dvel prev ra rb k12 cfm = first_passing (candidates (system dvel prev ra rb k12 cfm)) (kept prev)
