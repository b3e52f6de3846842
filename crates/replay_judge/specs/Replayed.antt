-- What a program adds that reads a file in portions: it calls `begin`, `Judge::read` on each portion, `Judge::end` (or `judge_read` and `judge_end`), each
-- call with what the one before left, and writes what each call tells. Then what it writes is `judged` of the file, however that was cut. Proved in
-- proofs/Replayed.antt. Assumes nothing.
use Rattle.std.specs.Prelude.{ℕ, ◌+◌, ◌≤◌, List, [], ◌∷◌, ◌++◌, ◌≡◌, length, take}
use Rattle.replay_days.specs.Judged.{judged}
use Rattle.base_places.specs.Lengths.{largest}
use Rattle.text_read.specs.Portions.{whole}
use Rattle.replay_judge.specs.Carried.{Buffers}
use Rattle.replay_judge.specs.Stands.{Begins, Finishes, Read}
use Rattle.replay_judge.specs.declared.Judge.{Judge}
use Rattle.replay_judge.specs.declared.Turned.{Turned}

-- the last call, of `Judge::end`: `written` is what it told
pub record LastCall (j : Judge) (input : Buffers) (out written : List ℕ) : Type 0 where
  pub told : List ℕ
  pub told' : List ℕ
  pub at : ℕ
  pub call : Finishes j input out told told' at
  pub all : written ≡ take at told'

-- a call of `Judge::read` on s, and the calls after it: `written` is what they told
pub record NextCall (s : List ℕ) (Calls : Judge → Buffers → List ℕ → List ℕ → Type 0) (j : Judge) (input : Buffers) (out written : List ℕ) : Type 0 where
  pub told : List ℕ
  pub turned : Turned
  pub input' : Buffers
  pub out' : List ℕ
  pub told' : List ℕ
  pub more : List ℕ
  pub call : Read j input out told s turned input' out' told'
  pub after : Calls turned.judge input' out' more
  pub all : written ≡ take turned.at told' ++ more

unfoldable pub Calls : List (List ℕ) → Judge → Buffers → List ℕ → List ℕ → Type 0
Calls [] = LastCall
Calls (s ∷ portions) = NextCall s (Calls portions)

abbrev pub Replayed : Type 0
Replayed =
    (portions : List (List ℕ)) (j : Judge) (input : Buffers) (out written : List ℕ) → Begins j → length (whole portions) + 2 ≤ largest
    → Calls portions j input out written → written ≡ judged (whole portions)
