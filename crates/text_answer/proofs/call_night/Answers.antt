-- `text_answer::call_night` meets its contract. The call on floats made of the patterns is the night's call. Assumes nothing.
use Rattle.text_answer.proofs.Called.{called_is}
use Rattle.text_answer.proofs.call_night.Goals as goal

pub returns-clause-called : goal.returns-clause-called
returns-clause-called c = search called_is
