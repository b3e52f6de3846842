-- `text_rows::answers` meets its contract. Rows are written, the rest is left. Assumes nothing.
use Rattle.text_rows.specs.Tables.{a_line, listing}
use Rattle.text_rows.proofs.Rowwise.{no_row_yet, row_more, rows_all}
use Rattle.text_rows.proofs.answers.Goals as goal

pub loop-row-init : goal.loop-row-init
loop-row-init c = no_row_yet c.start.ensures c.into_iter-row-iterator.ensures.into_iter_gives c.chunks_exact-row-items.ensures.rest c.chunks_exact-row-items.ensures.size

pub loop-row-preserved : goal.loop-row-preserved
loop-row-preserved c = row_more c.loop-row.invariant _ c.in-Some.ensures.steps c.row_line.ensures

pub returns : goal.returns
unfolding a_line listing
returns c = rows_all c.loop-row.invariant c.in-None.ensures.steps
