-- `text_read::portion` meets its contract. The text is over or refused, or takes the portion. Assumes nothing.
use native.Mathlib.Omega.{arith}
use mathlib.Core.Bool.{Bool, true, false, ◌||◌}
use mathlib.Core.Path.{◌≡◌, refl}
use Rattle.base_words.proofs.Said.{all_r}
use Rattle.text_read.proofs.Carrying.{sound_settled}
use Rattle.text_read.proofs.Going.{took, untaken}
use borrow.Author.Rules.{rules}
use Rattle.text_read.proofs.portion.Goals as goal

-- either is enough to take nothing, so a test that asks for less, or for both, fails where a portion is taken
some_r : (p q : Bool) → q ≡ true → (p || q) ≡ true
some_r true q e = refl
some_r false q e = e

ruleset enough = (some_r, all_r)

pub returns-then-k-is_some-clause-takes : goal.returns-then-k-is_some-clause-takes
returns-then-k-is_some-clause-takes c = untaken _ _ _ _ c.is_some.ensures (search enough) (omega arith)

pub feed-requires : goal.feed-requires
feed-requires c = (search sound_settled, search rules)

pub returns-clause-takes : goal.returns-clause-takes
returns-clause-takes c =
    took _ _ _ _ (search rules) c.is_some.ensures (search rules) c.room.ensures c.settle-t.ensures c.feed.ensures.fed (omega arith)
