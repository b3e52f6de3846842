-- Document 02, E1: from the bytes of a file of recorded nights to the bytes that are written of it. Assumes nothing.
use Rattle.std.specs.Prelude.{ℕ, ◌+◌, Bool, true, false, ◌&&◌, List, [], ◌∷◌, ◌++◌, Option, None, Some, eqb, length}
use Rattle.base_words.specs.Choice.{if◌then◌otherwise◌}
use Rattle.text_digits.specs.Digits.{dec_bytes, dec_field}
use Rattle.text_output.specs.Output.{output}

-- the lines of a text after the bytes `line` of its first: byte 10 ends a line, and what stands after the last byte 10, if anything, is a
-- line too
unfoldable pub lines_from : List ℕ → List ℕ → List (List ℕ)
lines_from line [] = if eqb (length line) 0 then [] otherwise line ∷ []
lines_from line (b ∷ s) = if eqb b 10 then line ∷ lines_from [] s otherwise lines_from (line ++ (b ∷ [])) s

unfoldable pub lines_of : List ℕ → List (List ℕ)
lines_of s = lines_from [] s

unfoldable pub same : List ℕ → List ℕ → Bool
same [] [] = true
same [] (b ∷ t) = false
same (a ∷ s) [] = false
same (a ∷ s) (b ∷ t) = eqb a b && same s t

-- "a line holding only D", which is byte 68; "a line holding only Z", byte 90
unfoldable pub only_d : List ℕ → Bool
only_d line = same line (68 ∷ [])

unfoldable pub only_z : List ℕ → Bool
only_z line = same line (90 ∷ [])

-- "the number of the first differing output line. A missing or surplus line differs at its own number": the output's lines and the recorded
-- ones from number n on, if any differs
unfoldable pub first_differing : ℕ → List (List ℕ) → List (List ℕ) → Option ℕ
first_differing n [] [] = None
first_differing n [] (surplus ∷ recorded) = Some n
first_differing n (missing ∷ lines) [] = Some n
first_differing n (line ∷ lines) (r ∷ recorded) = if same line r then first_differing (n + 1) lines recorded otherwise Some n

-- "one line a day, fields parted by a tab": the day's number, and the other fields, each after its tab
unfoldable pub day_line : ℕ → List ℕ → List ℕ
day_line day fields = dec_bytes day ++ fields ++ (10 ∷ [])

-- "0 if the recorded output is the same, otherwise 1 and the number of the first differing output line"
unfoldable pub verdict : ℕ → Option ℕ → List ℕ
verdict day None = day_line day (dec_field 0)
verdict day (Some n) = day_line day (dec_field 1 ++ dec_field n)

-- "It runs each input": the input's bytes, and the recorded lines
unfoldable pub compared : ℕ → List ℕ → List (List ℕ) → List ℕ
compared day input recorded = verdict day (first_differing 1 (lines_of (output input)) recorded)

-- "a last day with no D has 2 as its second field"
unfoldable pub no_d : ℕ → List ℕ
no_d day = day_line day (dec_field 2)

-- "A day is an input .., then the output": what has been read of a day, its input alone, or its input and the recorded lines
pub data Day : Type 0 where
  input_of : List ℕ → Day
  record_of : List ℕ → List (List ℕ) → Day

-- what is written of the lines that follow, where so much of day n has been read
unfoldable pub judged_from : ℕ → Day → List (List ℕ) → List ℕ
-- "an empty file writes nothing", and nothing is written where no line follows a day
judged_from n (input_of input) [] = if eqb (length input) 0 then [] otherwise no_d n
-- "an input up to a line holding only D"
judged_from n (input_of input) (line ∷ lines) =
    if only_d line then judged_from n (record_of input []) lines otherwise judged_from n (input_of (input ++ line ++ (10 ∷ []))) lines
-- "the last Z may be missing"
judged_from n (record_of input recorded) [] = compared n input recorded
-- "then the output up to a line holding only Z"
judged_from n (record_of input recorded) (line ∷ lines) =
    if only_z line then compared n input recorded ++ judged_from (n + 1) (input_of []) lines
    otherwise judged_from n (record_of input (recorded ++ (line ∷ []))) lines

-- "day number from 1"
unfoldable pub judged : List ℕ → List ℕ
judged file = judged_from 1 (input_of []) (lines_of file)
