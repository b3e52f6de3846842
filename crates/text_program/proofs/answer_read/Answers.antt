-- `text_program::answer_read` meets its contract. What is written stands at the buffer's front. Assumes nothing.
use Rattle.text_program.proofs.Whole.{all_answered}
use borrow.Author.Rules.{rules}
use Rattle.text_program.proofs.answer_read.Goals as goal

pub returns : goal.returns
returns c = search (all_answered, rules)
