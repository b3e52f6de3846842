-- `list_cells::store_if` meets its contract. By whether it is stored. Assumes nothing.
use Rattle.list_cells.specs.Cells.{put_if}
use Rattle.base_words.proofs.Pick.{take, pass}
use mathlib.Core.Path.{refl}
use Rattle.list_cells.proofs.store_if.Goals as goal

pub returns-then-stored : goal.returns-then-stored
unfolding put_if
returns-then-stored c = take _ c.if-stored.true refl

pub returns-else-stored : goal.returns-else-stored
unfolding put_if
returns-else-stored c = pass _ c.if-stored.false refl
