-- `list_tables::contact_in` meets its contract. Both rows are there. Assumes nothing.
use Rattle.list_tables.proofs.Contacts.{both_there}
use Rattle.list_tables.proofs.contact_in.Goals as goal

pub returns : goal.returns
returns c = search both_there
