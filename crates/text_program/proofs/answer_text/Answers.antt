-- `text_program::answer_text` meets its contract. A text read to its end, and answered. Assumes nothing.
use Rattle.text_program.proofs.Whole.{program_room, text_answered}
use borrow.Author.Rules.{rules}
use Rattle.text_program.proofs.answer_text.Goals as goal

pub returns : goal.returns
returns c = search (text_answered, program_room, rules)
