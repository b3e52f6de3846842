-- `romaludiv::counted` meets its contract. Assumes nothing.
use Rattle.romaludiv.proofs.Keeping.{as_counted}
use Rattle.romaludiv.proofs.counted.Goals as goal

pub returns : goal.returns
returns c = search as_counted
