-- `text_rows::bodies` meets its contract. Rows are written, the rest is left. Assumes nothing.
use mathlib.Core.List.{[]}
use Rattle.base_places.specs.Places.{body_width}
use Rattle.text_write.specs.Lines.{line}
use Rattle.text_rows.proofs.Rowwise.{Rowwise}
use Rattle.text_rows.proofs.bodies.Given as goal

abbrev pub invariant-loop-row : goal.invariant-loop-row
invariant-loop-row l = Rowwise (λ r. line 66 [] r) body_width l.bits l.fn.page l.yielded l.row-iterator l.page
