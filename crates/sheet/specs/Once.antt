-- What one reading and the end hand on, for `read_some` and `answer`. What was read is said by the buffer
-- that `read` left and how many of its bytes are counted; what is to be written, by the buffer of the answer and the count that `answer`
-- gives. That these bytes were taken from what stood to be read, and written, is said beside it, in the functions' other clauses. Assumes nothing.
use Rattle.std.specs.Prelude.{ℕ, Bool, true, false, ◌&&◌, not, List, ◌≡◌, Result, Ok, Err, ltb, take}
use Rattle.text_line.specs.Night.{of_program}
use Rattle.text_line.specs.Filled.{Cells}
use Rattle.text_read.specs.Text.{feeds, unread}
use Rattle.text_read.specs.Portions.{going}
use Rattle.text_read.specs.Carried.{Takes, capped_in, is_bad, reading_in}
use Rattle.text_read.specs.declared.Reader.{Reader}
use Rattle.text_program.specs.Answered.{Answered}
use Rattle.sheet.specs.declared.Reading.{Reading}

-- after a call: what is carried on, how many bytes were read, whether there may be more to read that matters, and whether all went well
pub record Onward : Type 0 where
  pub reader : Reader
  pub read : ℕ
  pub more : Bool
  pub well : Bool

-- a call that failed read no byte
abbrev pub onward : {E : Type 0} → Reader → Result Reading E → Onward
onward k (Ok r) = record { reader = r.reader; read = r.read; more = r.more; well = true }
onward k (Err e) = record { reader = k; read = 0; more = false; well = false }

-- the bytes that were read were taken as a portion; there may be more to read that matters exactly where all went well, something was read, and
-- no line was bad
pub record ReadOnce (k : Reader) (line : List ℕ) (w : Cells) (r : Onward) (portion' line' : List ℕ) (w' : Cells) : Type 0 where
  pub call : Takes k line w (take r.read portion') r.reader line' w'
  pub on : r.more ≡ r.well && (ltb 0 r.read && not (is_bad r.reader.bad))

-- where an input was fed to the reader, its output was handed to be written, all of it
pub record AnsweredOnce (k : Reader) (line : List ℕ) (w : Cells) (o o' : List ℕ) (number : ℕ) : Type 0 where
  pub whole : (input : List ℕ) → reading_in k line w ≡ capped_in (going (feeds of_program unread input)) → Answered input o o' number
