-- What a program adds that reads a night's text in portions: it calls `begin`, `portion` on each, `end` and `answer_read`, each call with what the one
-- before left, and writes what the last call tells. Then what it writes is the output of the text, however that was cut; and it may stop reading
-- after a bad line. Proved in proofs/InPortions.antt. Assumes nothing.
use Rattle.std.specs.Prelude.{ℕ, true, List, ◌++◌, ◌≡◌}
use Rattle.text_line.specs.Night.{of_program}
use Rattle.text_line.specs.Filled.{Cells, room_of}
use Rattle.text_read.specs.Text.{feeds, unread}
use Rattle.text_read.specs.Portions.{going, whole}
use Rattle.text_read.specs.Carried.{Begins, capped_in, is_bad, reading_in}
use Rattle.text_read.specs.Calls.{Calls}
use Rattle.text_read.specs.declared.Reader.{Reader}
use Rattle.text_program.specs.Answered.{Answered, AnsweredRead}

abbrev pub AnswersPortions : Type 0
AnswersPortions =
    (portions : List (List ℕ)) (k : Reader) (line : List ℕ) (w : Cells) (r : Reader) (line' : List ℕ) (w' : Cells) (o o' : List ℕ) (number : ℕ)
    → Begins k → room_of w ≡ of_program → Calls portions k line w r line' w' → AnsweredRead r w' o o' number
    → Answered (whole portions) o o' number

-- what was read had a bad line, as its reader says, and was answered: so was whatever would have followed
abbrev pub AnswersEarly : Type 0
AnswersEarly =
    (input rest : List ℕ) (k : Reader) (line : List ℕ) (w : Cells) (o o' : List ℕ) (number : ℕ)
    → reading_in k line w ≡ capped_in (going (feeds of_program unread input)) → is_bad k.bad ≡ true
    → Answered input o o' number → Answered (input ++ rest) o o' number
