-- `text_rows::loads` meets its contract. The lines of the first j points are written. Assumes nothing.
use Rattle.text_digits.specs.Wrote.{Writes}
use Rattle.text_write.specs.Lines.{each}
use Rattle.text_rows.specs.Tables.{point_line}
use Rattle.text_rows.proofs.loads.Given as goal

abbrev pub invariant-loop-j : goal.invariant-loop-j
invariant-loop-j l = Writes l.fn.page (each (point_line l.numbers l.floats) l.j) l.page
