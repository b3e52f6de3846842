-- `text_rows::answers` meets its contract. Rows are written, the rest is left. Assumes nothing.
use mathlib.Core.List.{[]}
use Rattle.base_places.specs.Places.{answer_width}
use Rattle.text_write.specs.Lines.{line}
use Rattle.text_rows.proofs.Rowwise.{Rowwise}
use Rattle.text_rows.proofs.answers.Given as goal

abbrev pub invariant-loop-row : goal.invariant-loop-row
invariant-loop-row l = Rowwise (λ r. line 65 r []) answer_width l.told l.fn.page l.yielded l.row-iterator l.page
