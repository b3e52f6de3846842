-- `text_read::feed_line` meets its contract. The line goes on to the end of the portion, or ends before it. Assumes nothing.
use native.Mathlib.Omega.{arith}
use Rattle.text_read.proofs.Going.{ends, goes, line_free}
use borrow.Author.Rules.{rules}
use Rattle.text_read.proofs.feed_line.Goals as goal

pub end_line-reader-requires : goal.end_line-reader-requires
end_line-reader-requires c = (search rules, search line_free, search rules)

pub returns-then-end-s-clause-turned : goal.returns-then-end-s-clause-turned
returns-then-end-s-clause-turned c =
    goes _ _ _ c.run_end-end.ensures.0 c.if-end-s.true c.requires.1 (c.go_on-reader.ensures _ c.requires.0)

pub returns-clause-turned : goal.returns-clause-turned
returns-clause-turned c =
    ends _ _ _ c.run_end-end.ensures.0
    (omega arith) (search rules)
