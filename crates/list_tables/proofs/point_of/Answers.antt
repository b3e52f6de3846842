-- `list_tables::point_of` meets its contract. Part by part. Assumes nothing.
use Rattle.list_tables.proofs.Contacts.{point_read}
use Rattle.list_tables.proofs.point_of.Goals as goal

pub returns : goal.returns
returns c = search point_read
