-- `text_answer::answer_night` meets its contract. The call, and what is written after it. Assumes nothing.
use Rattle.text_answer.proofs.Called.{is_answer}
use Rattle.text_answer.proofs.answer_night.Goals as goal

pub returns : goal.returns
returns c = search is_answer
