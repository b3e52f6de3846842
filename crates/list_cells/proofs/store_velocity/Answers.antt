-- `list_cells::store_velocity` meets its contract. All three cells are written. Assumes nothing.
use Rattle.list_cells.specs.Cells.{vel_row}
use Rattle.list_cells.proofs.Rows.{three_cells}
use Rattle.list_cells.proofs.store_velocity.Goals as goal

pub returns : goal.returns
unfolding vel_row
returns c = three_cells _ _ _ c.args.s.now c.requires
