-- `text_read::end_line` meets its contract. The line is too long; stands in the portion; or began before it. Assumes nothing.
use Rattle.text_read.proofs.Going.{end_from, end_held, end_long}
use native.Mathlib.Omega.{arith}
use Rattle.text_read.proofs.end_line.Goals as goal

pub returns-then-k-run-clause-fed : goal.returns-then-k-run-clause-fed
returns-then-k-run-clause-fed c = search end_long

pub returns-then-k-eq0-clause-fed : goal.returns-then-k-eq0-clause-fed
returns-then-k-eq0-clause-fed c = search end_from

pub returns-clause-fed : goal.returns-clause-fed
returns-clause-fed c =
    end_held _ _ _ c.requires.0 _ c.requires.1 c.requires.2 (omega arith) c.hold-all.ensures c.read_line-2.ensures.read c.after_line-2.ensures
