-- A file may be read in portions: however it is cut, what is told portion after portion and then at the end is what is written of the whole.
-- Proved in proofs/Portions.antt. Assumes nothing.
use Rattle.std.specs.Prelude.{ℕ, ◌+◌, ◌*◌, ◌≤◌, List, [], ◌∷◌, ◌++◌, ◌≡◌, length}
use Rattle.text_read.specs.Portions.{whole}
use Rattle.replay_days.specs.Judged.{judged}
use Rattle.replay_days.specs.Going.{Going, feeds, finish, start, tells}

unfoldable pub in_portions : Going → List (List ℕ) → List ℕ
in_portions g [] = finish g
in_portions g (p ∷ portions) = tells g p ++ in_portions (feeds g p) portions

abbrev pub AnyPortions : Type 0
AnyPortions = (portions : List (List ℕ)) → in_portions start portions ≡ judged (whole portions)

-- the day's number counts no more days than bytes were read
abbrev pub DaysFew : Type 0
DaysFew = (g : Going) (s : List ℕ) → (feeds g s).day ≤ g.day + length s

-- a byte tells at most 64 bytes
abbrev pub TellsShort : Type 0
TellsShort = (g : Going) (s : List ℕ) → length (tells g s) ≤ length s * 64

-- and the end of a file at most 128
abbrev pub FinishShort : Type 0
FinishShort = (g : Going) → length (finish g) ≤ 128
