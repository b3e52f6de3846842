-- `text_program::answer_state` meets its contract. The tables are cut to what was read. Assumes nothing.
use mathlib.Core.Path.{refl}
use Rattle.text_output.specs.Answer.{zeros}
use Rattle.text_program.proofs.Whole.{bodies_cut, cut_answer, floats_cut}
use borrow.Author.Rules.{rules}
use Rattle.text_program.proofs.answer_state.Goals as goal

pub answer_night-requires : goal.answer_night-requires
unfolding zeros
answer_night-requires c = record { bodies = search (bodies_cut, rules); contacts = search (floats_cut, rules); answers = refl }

pub returns : goal.returns
returns c = cut_answer _ _ _ _ _ c.answer_night.ensures.wrote
