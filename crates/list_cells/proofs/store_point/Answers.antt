-- `list_cells::store_point` meets its contract. One cell after the other. Assumes nothing.
use Rattle.list_cells.proofs.Points.{point_written}
use Rattle.list_cells.proofs.store_point.Goals as goal

pub returns : goal.returns
returns c = search point_written
