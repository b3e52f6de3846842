-- `list_tables::contact_at` meets its contract. By which of its rows are there. Assumes nothing.
use Rattle.list_tables.proofs.Contacts.{no_floats, no_numbers}
use Rattle.list_tables.proofs.contact_at.Goals as goal

pub returns-then-numbers-k : goal.returns-then-numbers-k
returns-then-numbers-k c = search no_numbers

pub returns-then-floats-k : goal.returns-then-floats-k
returns-then-floats-k c = search no_floats
