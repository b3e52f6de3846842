-- `step_kinds::stores` meets its contract. What friction stores is the table's third line. Assumes nothing.
use Rattle.step_kinds.specs.Table.{kind_of, kinds, stores}
use Rattle.step_kinds.proofs.stores.Goals as goal

pub returns-in-2 : goal.returns-in-2
unfolding stores kind_of kinds
returns-in-2 c = rw c.in-2.is c.is-in-2.ensures
