-- A file in portions, call after call. Assumes nothing.
use Prim.Native.Nat.{ℕ, ◌+◌, ◌≤◌}
use native.Mathlib.Omega.{arith}
use mathlib.Core.List.{List, [], ◌∷◌, ◌++◌}
use mathlib.Core.Path.{◌≡◌, ◌∙◌}
use lib.ListN.{length, length-append}
use Rattle.replay_days.specs.Going.{Going, feeds, start}
use Rattle.base_places.specs.Lengths.{largest}
use Rattle.text_read.specs.Portions.{whole}
use Rattle.replay_days.specs.Portions.{in_portions}
use Rattle.replay_days.proofs.Portions.{any_portions, days_few}
use Rattle.replay_judge.specs.Replayed.{Calls, Replayed}
use Rattle.replay_judge.specs.Carried.{Buffers}
use Rattle.replay_judge.specs.Stands.{Stands}
use Rattle.replay_judge.specs.declared.Judge.{Judge}
use Rattle.replay_judge.proofs.Finished.{first_day}

abbrev Told : List (List ℕ) → Type 0
Told portions =
    (j : Judge) (input : Buffers) (out written : List ℕ) (g : Going) → Stands j input out g → g.day + length (whole portions) + 1 ≤ largest
    → Calls portions j input out written → written ≡ in_portions g portions

module _ (s : List ℕ) (portions : List (List ℕ)) (on : Told portions) where
  next : Told (s ∷ portions)
  unfolding Calls in_portions whole
  next j input out written g st few c =
      let l : length (s ++ whole portions) ≡ length s + length (whole portions) = length-append s (whole portions) in
      let now : g.day + length s ≤ largest = omega (arith, few, l) in
      let later : (feeds g s).day + length (whole portions) + 1 ≤ largest = omega (arith, few, l, days_few g s) in
      rw (
        c.all,
        c.call.whole g st now,
        on c.turned.judge c.input' c.out' c.more (feeds g s) (c.call.turns.goes g st now) later c.after,
      )

all_told : (portions : List (List ℕ)) → Told portions
unfolding Calls in_portions
all_told [] j input out written g st few c = c.all ∙ c.call.whole g st (omega (arith, few))
all_told (s ∷ portions) j input out written g st few c = next s portions (all_told portions) j input out written g st few c

pub replayed : Replayed
replayed portions j input out written b few c =
    all_told portions j input out written start (b input out) (omega (arith, few, first_day)) c ∙ any_portions portions
