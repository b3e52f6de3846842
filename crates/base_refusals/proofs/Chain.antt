-- A chain of conditions, one at a time, over what a check found. Assumes nothing.
use Prim.Native.Nat.{ℕ}
use mathlib.Core.Path.{◌≡◌, refl}
use mathlib.Core.Bool.{Bool, true, false}
use mathlib.Core.List.{List, [], ◌∷◌}
use Rattle.base_words.proofs.Pick.{take, pass}
use Rattle.base_refusals.specs.Refusals.{Condition, ◌when◌, first}

module _ (n : ℕ) (cs : List Condition) {r b : Bool} (found : r ≡ b) where
  -- the check found that its condition holds
  pub hit : r ≡ true → n ≡ first (n when b ∷ cs)
  unfolding first
  hit t = rw (← found) (take _ t refl)

  -- it does not hold, and the later ones are judged right
  pub miss : {m : ℕ} → r ≡ false → m ≡ first cs → m ≡ first (n when b ∷ cs)
  unfolding first
  miss t later = rw (← found) (pass _ t later)

-- no condition is left
pub none : 0 ≡ first []
unfolding first
none = refl
