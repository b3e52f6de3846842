-- `list_cells::store_contact` meets its contract. One point after the other. Assumes nothing.
use Rattle.list_cells.proofs.Points.{contact_written}
use Rattle.list_cells.proofs.store_contact.Goals as goal

pub returns : goal.returns
returns c = search contact_written
