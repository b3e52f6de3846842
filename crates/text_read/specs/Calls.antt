-- What a caller gets who hands over a text in portions: `begin`, `portion` on each, `end`, each call with what the one before left. Document 02,
-- E8, as statements about the promises `Begins`, `Takes` and `Ends` that these functions meet. Proved in proofs/Calls.antt. Assumes nothing.
use Rattle.std.specs.Prelude.{ℕ, ◌≤◌, List, [], ◌∷◌, ◌++◌, ◌≡◌, length}
use Rattle.base_places.specs.Lengths.{most_in_line}
use Rattle.text_fields.specs.Fields.{Free}
use Rattle.text_line.specs.Night.{Night}
use Rattle.text_line.specs.Lines.{bad, read_line}
use Rattle.text_line.specs.Filled.{Cells, room_of}
use Rattle.text_read.specs.Text.{Text, feeds, reading, refused, text_of, unread}
use Rattle.text_read.specs.Portions.{Reading, going, over, whole}
use Rattle.text_read.specs.Carried.{Begins, Ends, Takes, capped_in, laid, reading_in, said}
use Rattle.text_read.specs.declared.Reader.{Reader}

-- a call of `portion` on s, and the calls after it
pub record NextCall (s : List ℕ) (After : Reader → List ℕ → Cells → Reader → List ℕ → Cells → Type 0) (k : Reader) (line : List ℕ) (w : Cells)
    (r : Reader) (line' : List ℕ) (w' : Cells) : Type 0 where
  pub next : Reader
  pub next_line : List ℕ
  pub next_cells : Cells
  pub call : Takes k line w s next next_line next_cells
  pub after : After next next_line next_cells r line' w'

-- a call of `portion` on each portion, then one of `end`
unfoldable pub Calls : List (List ℕ) → Reader → List ℕ → Cells → Reader → List ℕ → Cells → Type 0
Calls [] = Ends
Calls (s ∷ portions) = NextCall s (Calls portions)

-- a reader and its tables, which were w, are those of the whole text: its bad line, the line's number and reason, or how many lines there
-- were, and every cell
pub record CameTo (portions : List (List ℕ)) (w : Cells) (r : Reader) (line' : List ℕ) (w' : Cells) : Type 0 where
  pub is : reading_in r line' w' ≡ capped_in (over (text_of (room_of w) (whole portions)))
  pub tables : w' ≡ laid w (said (text_of (room_of w) (whole portions)))

-- "For every way of cutting, the tables, the X line and the line number equal those from the whole text"
abbrev pub AnyCalls : Type 0
AnyCalls =
    (portions : List (List ℕ)) (k : Reader) (line : List ℕ) (w : Cells) (r : Reader) (line' : List ℕ) (w' : Cells)
    → Begins k → Calls portions k line w r line' w' → CameTo portions w r line' w'

-- a call left every cell as it was, and a reader that carries x; a line's number past a machine word is cut to it
pub record Stays (x : Reading) (w : Cells) (k' : Reader) (line' : List ℕ) (w' : Cells) : Type 0 where
  pub is : reading_in k' line' w' ≡ capped_in x
  pub tables : w' ≡ w

-- "a second announcement gives the same answer, and a portion after the end changes nothing"
abbrev pub AfterEnd : Type 0
AfterEnd =
    (x : Text) (k : Reader) (line : List ℕ) (w : Cells) (k' : Reader) (line' : List ℕ) (w' : Cells) → reading_in k line w ≡ over x
    → ((s : List ℕ) → Takes k line w s k' line' w' → Stays (over x) w k' line' w') × (Ends k line w k' line' w' → Stays (over x) w k' line' w')

-- the same of the answer to a whole text, however often: the same line, number, reason and cells as after the first announcement
abbrev pub SameAnswer : Type 0
SameAnswer =
    (portions : List (List ℕ)) (w : Cells) (r : Reader) (line : List ℕ) (w₁ : Cells) (r' : Reader) (line' : List ℕ) (w₂ : Cells)
    → CameTo portions w r line w₁
    → ((s : List ℕ) → Takes r line w₁ s r' line' w₂ → CameTo portions w r' line' w₂) × (Ends r line w₁ r' line' w₂ → CameTo portions w r' line' w₂)

-- "The first bad line and portions after it change no table": a text that is refused stays so, by the same line and for the same reason, and no
-- call writes to a cell
abbrev pub AfterBad : Type 0
AfterBad =
    (n reason : ℕ) (t : Night) (k : Reader) (line : List ℕ) (w : Cells) (k' : Reader) (line' : List ℕ) (w' : Cells)
    → reading_in k line w ≡ going (refused n reason t)
    → ((s : List ℕ) → Takes k line w s k' line' w' → Stays (going (refused n reason t)) w k' line' w')
    × (Ends k line w k' line' w' → Stays (over (refused n reason t)) w k' line' w')

-- the bad line itself, wherever the text is cut: what the lines before it said is all that was laid over the tables, whatever comes after it. Here
-- of a line that byte 10 ends; of one that is too long, of a last line without it and of a contact that the end cuts short `AnyCalls` says it, since
-- `refused` has what the lines before said
pub record Refused (n reason : ℕ) (t : Night) (w : Cells) (r : Reader) (line' : List ℕ) (w' : Cells) : Type 0 where
  pub is : reading_in r line' w' ≡ capped_in (over (refused n reason t))
  pub tables : w' ≡ laid w t

abbrev pub FirstBad : Type 0
FirstBad =
    (portions : List (List ℕ)) (k : Reader) (line : List ℕ) (w : Cells) (r : Reader) (line' : List ℕ) (w' : Cells)
    → Begins k → Calls portions k line w r line' w'
    → (before bad_line after : List ℕ) (n reason : ℕ) (t : Night) → whole portions ≡ before ++ (bad_line ++ (10 ∷ after))
    → feeds (room_of w) unread before ≡ reading [] n t
    → Free 10 bad_line → length bad_line ≤ most_in_line → read_line (room_of w) t bad_line ≡ bad reason
    → Refused n reason t w r line' w'
