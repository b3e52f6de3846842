-- `list_cells::store_answer` meets its contract. Both cells are written. Assumes nothing.
use Rattle.list_cells.specs.Cells.{answer_row}
use Rattle.list_cells.proofs.Rows.{two_cells}
use Rattle.list_cells.proofs.store_answer.Goals as goal

pub returns : goal.returns
unfolding answer_row
returns c = two_cells _ _ c.args.s.now c.requires
