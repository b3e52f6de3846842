-- `judged`, byte after byte, with no more kept than what is still needed: of the input its bytes, of the output its lines that have not been
-- met yet. A day's line is told where the first line that differs has ended, or else where the day ends. Assumes nothing.
use Rattle.std.specs.Prelude.{ℕ, zero, suc, ◌+◌, Bool, false, List, [], ◌∷◌, ◌++◌, Option, None, Some, eqb, length}
use Rattle.base_words.specs.Choice.{if◌then◌otherwise◌}
use Rattle.text_digits.specs.Digits.{dec_field}
use Rattle.text_output.specs.Output.{output}
use Rattle.replay_days.specs.Judged.{day_line, lines_of, no_d, only_d, only_z, same}

-- in a day's input; in its recorded output, where the output's lines `left` have not been met and the next has number n; or in its recorded
-- output after a line that differs, which has been told
pub data Part : Type 0 where
  reading : List ℕ → Part
  comparing : List (List ℕ) → ℕ → Part
  differing : Part

-- the day's number, the part of it, and what there is of the line
pub record Going : Type 0 where
  pub day : ℕ
  pub part : Part
  pub line : List ℕ

-- whether a recorded line is the output's next
unfoldable pub meets : List ℕ → List (List ℕ) → Bool
meets line [] = false
meets line (next ∷ left) = same next line

unfoldable pub rest_of : List (List ℕ) → List (List ℕ)
rest_of [] = []
rest_of (next ∷ left) = left

-- a day's line, by the number of the line that differs, if one does. Lines are counted from 1: a line 0 is none, though what is carried may name it
unfoldable pub counted_verdict : ℕ → Option ℕ → List ℕ
counted_verdict day None = day_line day (dec_field 0)
counted_verdict day (Some zero) = day_line day (dec_field 0)
counted_verdict day (Some (suc n)) = day_line day (dec_field 1 ++ dec_field (suc n))

-- the day's line where the recorded output ends: the same if no line is left, else the next one is missing
unfoldable pub ending : ℕ → List (List ℕ) → ℕ → List ℕ
ending day [] n = counted_verdict day None
ending day (missing ∷ left) n = counted_verdict day (Some n)

-- the part after a line: of the same day, or of the next where the line ended the day
unfoldable pub part_after : Part → List ℕ → Part
part_after (reading input) line = if only_d line then comparing (lines_of (output input)) 1 otherwise reading (input ++ line ++ (10 ∷ []))
part_after (comparing left n) line =
    if only_z line then reading [] otherwise if meets line left then comparing (rest_of left) (n + 1) otherwise differing
part_after differing line = if only_z line then reading [] otherwise differing

unfoldable pub day_after : ℕ → Part → List ℕ → ℕ
day_after day (reading input) line = day
day_after day (comparing left n) line = if only_z line then day + 1 otherwise day
day_after day differing line = if only_z line then day + 1 otherwise day

-- what a line tells
unfoldable pub line_tells : ℕ → Part → List ℕ → List ℕ
line_tells day (reading input) line = []
line_tells day (comparing left n) line =
    if only_z line then ending day left n otherwise if meets line left then [] otherwise counted_verdict day (Some n)
line_tells day differing line = []

-- what the end of the file tells, after whole lines
unfoldable pub end_tells : ℕ → Part → List ℕ
end_tells day (reading input) = if eqb (length input) 0 then [] otherwise no_d day
end_tells day (comparing left n) = ending day left n
end_tells day differing = []

-- what the line tells if it ends here; and what it and the file's end tell if the file ends here too
abbrev pub line_says : Going → List ℕ
line_says g = line_tells g.day g.part g.line

abbrev pub last_says : Going → List ℕ
last_says g = line_says g ++ end_tells (day_after g.day g.part g.line) (part_after g.part g.line)

-- after a whole line
unfoldable pub line_ended : Going → Going
line_ended g = record { day = day_after g.day g.part g.line; part = part_after g.part g.line; line = [] }

-- one byte more
unfoldable pub fed : Going → ℕ → Going
fed g b = if eqb b 10 then line_ended g otherwise record { day = g.day; part = g.part; line = g.line ++ (b ∷ []) }

unfoldable pub byte_tells : Going → ℕ → List ℕ
byte_tells g b = if eqb b 10 then line_says g otherwise []

unfoldable pub feeds : Going → List ℕ → Going
feeds g [] = g
feeds g (b ∷ s) = feeds (fed g b) s

unfoldable pub tells : Going → List ℕ → List ℕ
tells g [] = []
tells g (b ∷ s) = byte_tells g b ++ tells (fed g b) s

-- the end of the file: what stands after the last byte 10, if anything, is a line too
unfoldable pub finish : Going → List ℕ
finish g = if eqb (length g.line) 0 then end_tells g.day g.part otherwise last_says g

unfoldable pub start : Going
start = record { day = 1; part = reading []; line = [] }
