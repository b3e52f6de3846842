-- The statements of specs/Pushing.antt. Assumes nothing.
use mathlib.Core.Bool.{Bool, true, false, ◌&&◌}
use mathlib.Core.List.{List, [], ◌∷◌}
use mathlib.Core.Logic.{◌⊎◌, inl, inr}
use mathlib.Core.Path.{◌≡◌, refl, sym, ◌∙◌}
use lib.Dec.{T}
use lib.Ieee.{Float, binary32, eq, fits, le, lt, neg, of_bits}
use lib.Ieee.Fits.{cond-fits, mul-fits, sub-fits}
use Rattle.base_words.specs.Choice.{if◌then◌otherwise◌}
use Rattle.base_words.specs.Each.{Each}
use Rattle.base_words.proofs.Each.{◌and◌}
use Rattle.base_words.proofs.Pick.{take, pass}
use Rattle.base_words.proofs.Said.{all_l, all_r}
use Rattle.elem_leaves.specs.Floats.{◌-f◌, ◌*f◌, ◌<f◌, ◌>f◌, half, zero}
use Rattle.elem_leaves.specs.Leaves.{inv, max0}
use Rattle.elem_leaves.specs.Signs.{AtLeast0, InUnit, NotBelow0}
use Rattle.elem_leaves.proofs.Signs.{max0_at_least, not_below, product_at_least}
use Rattle.elem_leaves.specs.declared.Vec2.{Vec2}
use Rattle.elem_impulse.specs.Block.{Candidate, a_only, alone, b_only, block_choice, both, candidates, first_passing, kept, neither, system}
use Rattle.elem_impulse.specs.Pair.{choice, degraded}
use Rattle.elem_impulse.specs.Point.{normal_impulse, restitution_impulse}
use Rattle.elem_impulse.specs.Pushing.{CandidatesPush, FirstPassing, FlagAboveHalf, PairInput, InOrder, Made, RulesPush, OfBoth, PairsKeep, Pushes, PushesIfPassing, pair_gives}
use Rattle.elem_impulse.specs.declared.PairChoice.{PairChoice}

-- what every number of 0 or above has, a new impulse has where the old one had it
pub carried : (P : Float → Type 0) → ((x : Float) → AtLeast0 x → P x) → {old new : Float} → Pushes old new → P old → P new
carried P wide (inl same) had = rw same had
carried P wide (inr up) had = wide _ up.0

-- one change after another
pub pushed_on : {old mid new : Float} → Pushes old mid → Pushes mid new → Pushes old new
pushed_on (inl e) (inl f) = inl (f ∙ e)
pushed_on (inr up) (inl f) = inr (rw f up)
pushed_on before (inr up) = inr up

zero_made : Made zero
unfolding le lt eq of_bits fits
zero_made = (refl, tt)

-- the candidates in their order
pub in_order : InOrder
unfolding candidates both a_only b_only neither
in_order s = refl

-- the candidates, each by its own tests
alone_pushes : (b kp other k12 : Float) → (alone b kp other k12).passes ≡ true → Made (alone b kp other k12).impulse
unfolding alone
alone_pushes b kp other k12 h = (search all_l, mul-fits binary32 (neg b) (inv kp))

pub candidates_push : CandidatesPush
unfolding candidates both a_only b_only neither
candidates_push s =
    (λ h. ((search (all_l, all_r), mul-fits binary32 _ _), (search (all_l, all_r), mul-fits binary32 _ _)))
    and (λ h. (alone_pushes s.b1 s.kp11 s.b2 s.k12 h, zero_made))
    and (λ h. (zero_made, alone_pushes s.b2 s.kp22 s.b1 s.k12 h))
    and (λ h. (zero_made, zero_made))
    and tt

-- the definition of the first that passes is the first that passes, and there is but one
first_is : (cs : List Candidate) (none_passed : PairChoice) → FirstPassing cs none_passed (first_passing cs none_passed)
unfolding first_passing FirstPassing
first_is [] n = refl
first_is (c ∷ cs) n = by_case c.passes refl (first_is cs n)
  where
    by_case : (b : Bool) → c.passes ≡ b → FirstPassing cs n (first_passing cs n)
        → ((c.passes ≡ true) × ((if b then c.choice otherwise first_passing cs n) ≡ c.choice))
        ⊎ ((c.passes ≡ false) × FirstPassing cs n (if b then c.choice otherwise first_passing cs n))
    by_case true e rest = inl (e, refl)
    by_case false e rest = inr (e, rest)

only_first : (cs : List Candidate) (none_passed r : PairChoice) → FirstPassing cs none_passed r → r ≡ first_passing cs none_passed
unfolding first_passing FirstPassing
only_first [] n r is = is
only_first (c ∷ cs) n r (inl here) = rw here.0 here.1
only_first (c ∷ cs) n r (inr later) = rw later.0 (only_first cs n r later.1)

-- the flag decides
block_chosen : (p : PairInput) → (p.flag >f half) ≡ true → pair_gives p ≡ block_choice p.dvel p.prev p.ra p.rb p.k12 p.cfm
unfolding choice
block_chosen p above = sym (take _ above refl)

degraded_chosen : (p : PairInput) → (p.flag >f half) ≡ false → pair_gives p ≡ degraded p.dvel p.degraded_dvel p.prev p.ra p.rb p.k12 p.cfm
unfolding choice
degraded_chosen p not-above = sym (pass _ not-above refl)

pub flag_above_half : FlagAboveHalf
unfolding block_choice kept
flag_above_half p above =
    let cs = candidates (system p.dvel p.prev p.ra p.rb p.k12 p.cfm) in
    let is : pair_gives p ≡ first_passing cs (kept p.prev) = block_chosen p above in
    record { is_first = rw is (first_is cs (kept p.prev)); no_other = λ r first. only_first cs (kept p.prev) r first ∙ sym is }

-- so the first that passes pushes, or is what stood in for it
abbrev BothPush : Vec2 → Vec2 → Type 0
BothPush old new = Pushes old.x new.x × Pushes old.y new.y

first_pushes : (cs : List Candidate) (none_passed r : PairChoice) → Each PushesIfPassing cs → FirstPassing cs none_passed r → BothPush none_passed.impulse r.impulse
unfolding FirstPassing
first_pushes [] n r all is = rw is (inl refl, inl refl)
first_pushes (c ∷ cs) n r all (inl here) = let up = all.0 here.0 in rw here.1 (inr up.0, inr up.1)
first_pushes (c ∷ cs) n r all (inr later) = first_pushes cs n r all.1 later.1

-- one point
pub normals_push : (cfm impulse r dvel : Float) → InUnit cfm → Made (normal_impulse cfm impulse r dvel)
unfolding normal_impulse
normals_push cfm impulse r dvel f =
    let x = max0 (impulse -f r *f dvel) in (product_at_least cfm x f (max0_at_least (impulse -f r *f dvel)), mul-fits binary32 cfm x)

-- max0 of what fits
max0_made : (x : Float) → T (fits binary32 x) → Made (max0 x)
unfolding max0
max0_made x h = (max0_at_least x, cond-fits binary32 (x >f zero) x zero h zero_made.1)

pub restitutions_push : (seed total impulse r dvel : Float) → Pushes impulse (restitution_impulse seed total impulse r dvel)
unfolding restitution_impulse
restitutions_push seed total impulse r dvel = by_case ((seed <f zero) && (total >f zero))
  where
    by_case : (b : Bool) → Pushes impulse (if b then max0 (impulse -f r *f dvel) otherwise impulse)
    by_case true = inr (max0_made (impulse -f r *f dvel) (sub-fits binary32 impulse (r *f dvel)))
    by_case false = inl refl

-- a pair, with the flag above a half ..
block_pushes : (p : PairInput) → (p.flag >f half) ≡ true → BothPush p.prev (pair_gives p).impulse
unfolding kept
block_pushes p above =
    let s = system p.dvel p.prev p.ra p.rb p.k12 p.cfm in
    first_pushes (candidates s) (kept p.prev) (pair_gives p) (candidates_push s) (flag_above_half p above).is_first

-- .. or not: one point after the other
degraded_pushes : (p : PairInput) → (p.flag >f half) ≡ false → OfBoth InUnit p.cfm → BothPush p.prev (pair_gives p).impulse
unfolding degraded
degraded_pushes p not-above soft = rw (degraded_chosen p not-above) (inr (normals_push p.cfm.x _ _ _ soft.0), inr (normals_push p.cfm.y _ _ _ soft.1))

pub pairs_push : (p : PairInput) → OfBoth InUnit p.cfm → BothPush p.prev (pair_gives p).impulse
pairs_push p soft = by_case (p.flag >f half) refl
  where
    by_case : (b : Bool) → (p.flag >f half) ≡ b → BothPush p.prev (pair_gives p).impulse
    by_case true above = block_pushes p above
    by_case false not-above = degraded_pushes p not-above soft

-- what every number of 0 or above has
pairs_keep : (P : Float → Type 0) → ((x : Float) → AtLeast0 x → P x) → PairsKeep P
pairs_keep P wide p old soft = let new = pairs_push p soft in (carried P wide new.0 old.0, carried P wide new.1 old.1)

pub rules_push : RulesPush
rules_push = record {
  pairs_not_below = pairs_keep NotBelow0 not_below;
  pairs_at_least = pairs_keep AtLeast0 (λ x h. h);
  pairs = pairs_push;
  normals = normals_push;
  restitutions = restitutions_push;
}
