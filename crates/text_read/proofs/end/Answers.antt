-- `text_read::end` meets its contract. A second end, the end after a bad line, or the end of a text. Assumes nothing.
use native.Mathlib.Omega.{arith}
use Rattle.text_read.proofs.Ending.{end_again, end_bad, end_whole}
use Rattle.text_read.proofs.Carrying.{sound_settled}
use borrow.Author.Rules.{rules}
use Rattle.text_read.proofs.end.Goals as goal

pub returns-then-k-clause-ends : goal.returns-then-k-clause-ends
returns-then-k-clause-ends c = end_again _ _ _ (omega arith) (search rules)

pub returns-then-is_some-clause-ends : goal.returns-then-is_some-clause-ends
returns-then-is_some-clause-ends c =
    end_bad _ _ _ (omega arith) c.if-k.false c.is_some.ensures c.if-is_some.true c.close.ensures

pub last_line-requires : goal.last_line-requires
last_line-requires c = (search sound_settled, search rules)

pub returns-clause-ends : goal.returns-clause-ends
returns-clause-ends c =
    end_whole _ _ _ (omega arith) c.if-k.false c.is_some.ensures c.if-is_some.false c.room.ensures c.settle-t.ensures c.last_line.ensures.closes
    c.close-2.ensures (omega arith)
