-- `list_cells::put_answer` meets its contract. A row, no row. Assumes nothing.
use Rattle.list_cells.proofs.Put.{answer_past, answer_put}
use Rattle.list_cells.proofs.put_answer.Goals as goal

pub returns-then-i-room : goal.returns-then-i-room
returns-then-i-room c = search answer_put

pub returns-else-i-room : goal.returns-else-i-room
returns-else-i-room c = search answer_past
