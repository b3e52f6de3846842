-- `text_rows::point_line` meets its contract. A point below count has a line. Assumes nothing.
use Rattle.text_rows.proofs.Tables.{no_point, point_written}
use Rattle.text_rows.proofs.point_line.Goals as goal

pub returns-then-point-points_of : goal.returns-then-point-points_of
returns-then-point-points_of c = search point_written

pub returns-else-point-points_of : goal.returns-else-point-points_of
returns-else-point-points_of c = search no_point
