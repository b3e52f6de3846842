-- What `answer_all` adds: `read_some` again and again, each call with what the one before left, and then `answer`. What that hands to be written is
-- the output of the whole input, however it was cut, and also where the reading stopped after a bad line. Proved in proofs/Sheets.antt. Assumes
-- nothing.
use Rattle.std.specs.Prelude.{ℕ, false, List, [], ◌∷◌, ◌++◌, ◌≡◌, take}
use Rattle.text_line.specs.Night.{of_program}
use Rattle.text_line.specs.Filled.{Cells, room_of}
use Rattle.text_read.specs.Portions.{whole}
use Rattle.text_read.specs.Carried.{Begins, is_bad}
use Rattle.text_read.specs.declared.Reader.{Reader}
use Rattle.text_program.specs.Answered.{Answered}
use Rattle.sheet.specs.Once.{AnsweredOnce, Onward, ReadOnce}

-- no call
pub record NoRead (k : Reader) (line : List ℕ) (w : Cells) (k' : Reader) (line' : List ℕ) (w' : Cells) : Type 0 where
  pub same_reader : k' ≡ k
  pub same_line : line' ≡ line
  pub same_cells : w' ≡ w

-- a call of `read_some` that read s, and the calls after it
pub record NextRead (s : List ℕ) (After : Reader → List ℕ → Cells → Reader → List ℕ → Cells → Type 0) (k : Reader) (line : List ℕ) (w : Cells)
    (k' : Reader) (line' : List ℕ) (w' : Cells) : Type 0 where
  pub onward : Onward
  pub portion : List ℕ
  pub next_line : List ℕ
  pub next_cells : Cells
  pub call : ReadOnce k line w onward portion next_line next_cells
  pub read : take onward.read portion ≡ s
  pub after : After onward.reader next_line next_cells k' line' w'

unfoldable pub Reads : List (List ℕ) → Reader → List ℕ → Cells → Reader → List ℕ → Cells → Type 0
Reads [] = NoRead
Reads (s ∷ portions) = NextRead s (Reads portions)

-- nothing is left of the input, or a line of what was read was bad
abbrev pub SheetAnswers : Type 0
SheetAnswers =
    (portions : List (List ℕ)) (rest : List ℕ) (k : Reader) (line : List ℕ) (w : Cells) (k' : Reader) (line' : List ℕ) (w' : Cells)
    (o o' : List ℕ) (number : ℕ) → Begins k → room_of w ≡ of_program → Reads portions k line w k' line' w' → AnsweredOnce k' line' w' o o' number
    → (is_bad k'.bad ≡ false → rest ≡ []) → Answered (whole portions ++ rest) o o' number
