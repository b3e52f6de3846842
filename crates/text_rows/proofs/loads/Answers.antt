-- `text_rows::loads` meets its contract. The lines of the first j points are written. Assumes nothing.
use borrow.Author.Rules.{rules}
use Rattle.text_write.proofs.Lines.{all_lines, from_start, line_more}
use Rattle.text_rows.specs.Tables.{listing}
use Rattle.text_rows.proofs.loads.Goals as goal

pub loop-j-init : goal.loop-j-init
loop-j-init c = search from_start

pub loop-j-preserved : goal.loop-j-preserved
loop-j-preserved c = search line_more

pub returns : goal.returns
unfolding listing
returns c = search (all_lines, rules)
