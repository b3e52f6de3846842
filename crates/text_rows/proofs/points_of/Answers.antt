-- `text_rows::points_of` meets its contract. One point, two, any other count, no row. Assumes nothing.
use Rattle.text_rows.proofs.Tables.{no_points, no_row, one_point, two_points}
use Rattle.text_rows.proofs.points_of.Goals as goal

pub returns-in-1 : goal.returns-in-1
returns-in-1 c = search one_point

pub returns-in-2 : goal.returns-in-2
returns-in-2 c = search two_points

pub returns-in_default : goal.returns-in_default
returns-in_default c = search no_points

pub returns-else-k-numbers : goal.returns-else-k-numbers
returns-else-k-numbers c = search no_row
