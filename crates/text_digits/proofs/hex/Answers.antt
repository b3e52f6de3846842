-- `text_digits::hex` meets its contract. Not eight bytes; one byte more; eight digits, and eight bytes of which one is no digit.
-- Assumes nothing.
use Rattle.text_digits.proofs.Accepted.{hex_other}
use Rattle.text_digits.proofs.Eight.{eight_none, eight_number, in_word, look}
use Rattle.text_digits.proofs.hex.Goals as goal

pub returns-then-s-ne8 : goal.returns-then-s-ne8
returns-then-s-ne8 c = search hex_other

pub overflow_add-n : goal.overflow_add-n
overflow_add-n c = search in_word

pub loop-b-preserved : goal.loop-b-preserved
loop-b-preserved c = search look

pub returns-then-all : goal.returns-then-all
returns-then-all c = search eight_number

pub returns-else-all : goal.returns-else-all
returns-else-all c = search eight_none
