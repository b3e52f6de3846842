-- `list_cells::put_impulses_in` meets its contract. Its row is there. Assumes nothing.
use Rattle.list_cells.proofs.Put.{impulses_put}
use Rattle.list_cells.proofs.put_impulses_in.Goals as goal

pub returns : goal.returns
returns c = search impulses_put
