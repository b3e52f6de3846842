-- `text_program::write_read` meets its contract. What was read, and a bad line. Assumes nothing.
use Rattle.text_line.specs.Night.{of_program}
use Rattle.text_program.proofs.Whole.{bad_written, fine_written, program_room}
use borrow.Author.Rules.{rules}
use Rattle.text_program.proofs.write_read.Goals as goal

pub returns-in-None : goal.returns-in-None
unfolding of_program
returns-in-None c =
    fine_written _ _ (search rules) (program_room _ _ _ _ (search rules) (search rules) (search rules) (search rules))
    c.within-st.ensures c.answer_state.ensures

pub returns-in-Some : goal.returns-in-Some
returns-in-Some c = search (bad_written, rules)
