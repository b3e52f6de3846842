-- `list_tables::contact_of` meets its contract. Part by part. Assumes nothing.
use Rattle.list_tables.proofs.Contacts.{contact_read}
use Rattle.list_tables.proofs.contact_of.Goals as goal

pub returns : goal.returns
returns c = search contact_read
