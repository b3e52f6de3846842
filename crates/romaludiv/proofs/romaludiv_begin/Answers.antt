-- `romaludiv::romaludiv_begin` meets its contract. Assumes nothing.
use Rattle.romaludiv.proofs.Keeping.{begun_words}
use Rattle.romaludiv.proofs.romaludiv_begin.Goals as goal

pub returns-clause-begins : goal.returns-clause-begins
returns-clause-begins c = search begun_words
