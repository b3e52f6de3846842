-- `list_checks::wrong_sizes` meets its contract. By what both parts ensure. Assumes nothing.
use Rattle.list_checks.specs.Checks.{wrong_sizes}
use Rattle.list_checks.proofs.wrong_sizes.Goals as goal

pub returns : goal.returns
unfolding wrong_sizes
returns c = rw (← c.too_many.ensures, ← c.some_uneven.ensures)
