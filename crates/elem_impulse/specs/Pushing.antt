-- Request E10, "Loads never pull": the new impulses of a point and of a pair, on any floats, non-finite ones included. Each statement is proved in
-- proofs/Pushing.antt. Of steps and lists it is said in step_promises, list_pushing and call_rules. Assumes nothing.
use Rattle.std.specs.Prelude.{true, false, List, [], ◌∷◌, map, ◌⊎◌, ◌≡◌, T, Float}
use Rattle.std.specs.Float.{binary32}
use Rattle.std.specs.Float.Ieee.{fits}
use Rattle.base_words.specs.Each.{Each}
use Rattle.elem_leaves.specs.Floats.{◌>f◌, half}
use Rattle.elem_leaves.specs.Signs.{AtLeast0, InUnit, NotBelow0}
use Rattle.elem_leaves.specs.declared.Vec2.{Vec2}
use Rattle.elem_impulse.specs.Block.{Candidate, candidates, system}
use Rattle.elem_impulse.specs.Pair.{choice}
use Rattle.elem_impulse.specs.Point.{normal_impulse, restitution_impulse}
use Rattle.elem_impulse.specs.declared.Branch.{Branch}
use Rattle.elem_impulse.specs.declared.Branch.TheVariants.{Both, OnlyA, OnlyB, Neither, Kept}
use Rattle.elem_impulse.specs.declared.PairChoice.{PairChoice}
use Rattle.elem_impulse.specs.declared.System.{System}

-- what is given to "the bare pair routine", any floats at all, and the two impulses and the branch that it gives
pub record PairInput : Type 0 where
  pub dvel : Vec2
  pub degraded_dvel : Float
  pub prev : Vec2
  pub ra : Float
  pub rb : Float
  pub k12 : Float
  pub flag : Float
  pub cfm : Vec2

abbrev pub pair_gives : PairInput → PairChoice
pair_gives p = choice p.dvel p.degraded_dvel p.prev p.ra p.rb p.k12 p.flag p.cfm

-- of the numbers of points a and b
abbrev pub OfBoth : (Float → Type 0) → Vec2 → Type 0
OfBoth P n = P n.x × P n.y

-- "with both previous normal impulses not below 0 and each cfm in (0, 1], any other floats .. make the bare pair routine give impulses
-- not below 0": P is that, or the stronger form
abbrev pub PairsKeep : (Float → Type 0) → Type 0
PairsKeep P = (p : PairInput) → OfBoth P p.prev → OfBoth InUnit p.cfm → OfBoth P (pair_gives p).impulse

-- what lies behind it, with nothing asked of the old impulse: the new one is the old one, or a number of the format that is 0 or above
abbrev pub Made : Float → Type 0
Made x = AtLeast0 x × T (fits binary32 x)

abbrev pub Pushes : Float → Float → Type 0
Pushes old new = (new ≡ old) ⊎ Made new

pub record RulesPush : Type 0 where
  pub pairs_not_below : PairsKeep NotBelow0
  pub pairs_at_least : PairsKeep AtLeast0
  pub pairs : (p : PairInput) → OfBoth InUnit p.cfm
      → Pushes p.prev.x (pair_gives p).impulse.x × Pushes p.prev.y (pair_gives p).impulse.y
  -- one point: kind 1 whatever the old impulse was, kind 3 whatever all numbers are
  pub normals : (cfm impulse r dvel : Float) → InUnit cfm → Made (normal_impulse cfm impulse r dvel)
  pub restitutions : (seed total impulse r dvel : Float) → Pushes impulse (restitution_impulse seed total impulse r dvel)

-- "the first candidate that passes its tests", or, where none does, what stands in for it
unfoldable pub FirstPassing : List Candidate → PairChoice → PairChoice → Type 0
FirstPassing [] none_passed r = r ≡ none_passed
FirstPassing (c ∷ cs) none_passed r = ((c.passes ≡ true) × (r ≡ c.choice)) ⊎ ((c.passes ≡ false) × FirstPassing cs none_passed r)

-- "with flag above 0.5 they are exactly the first candidate that passes its tests, or the previous pair if none does": that, and nothing else. The
-- candidates and their tests are those of Block.antt
abbrev pub IsFirst : PairInput → PairChoice → Type 0
IsFirst p =
    FirstPassing (candidates (system p.dvel p.prev p.ra p.rb p.k12 p.cfm)) (record { branch = Kept; impulse = p.prev })

pub record ExactlyFirst (p : PairInput) : Type 0 where
  pub is_first : IsFirst p (pair_gives p)
  pub no_other : (r : PairChoice) → IsFirst p r → r ≡ pair_gives p

abbrev pub FlagAboveHalf : Type 0
FlagAboveHalf = (p : PairInput) → (p.flag >f half) ≡ true → ExactlyFirst p

-- they stand in document 01's order: both, a only, b only, none
abbrev pub branches : List Candidate → List Branch
branches = map (λ c. c.choice.branch)

abbrev pub InOrder : Type 0
InOrder = (s : System) → branches (candidates s) ≡ Both ∷ OnlyA ∷ OnlyB ∷ Neither ∷ []

-- and each that passes has impulses of 0 or above
abbrev pub PushesIfPassing : Candidate → Type 0
PushesIfPassing c = c.passes ≡ true → OfBoth Made c.choice.impulse

abbrev pub CandidatesPush : Type 0
CandidatesPush = (s : System) → Each PushesIfPassing (candidates s)
