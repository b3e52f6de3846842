-- What the text program leaves in its buffer. Assumes nothing.
use Rattle.std.specs.Prelude.{ℕ, ◌*◌, ◌≤◌, List, [], ◌≡◌, length, take}
use Rattle.std.proofs.lemmas.List.Edits.{sets}
use Rattle.base_places.specs.Places.{body_width, floats_width}
use Rattle.base_places.specs.Lengths.{longest_output, program_bodies, program_contacts}
use Rattle.text_digits.specs.Wrote.{Wrote}
use Rattle.text_line.specs.Night.{of_program}
use Rattle.text_line.specs.Filled.{Cells, Sane}
use Rattle.text_line.specs.declared.State.{State}
use Rattle.text_read.specs.Text.{text_of}
use Rattle.text_read.specs.Portions.{over}
use Rattle.text_read.specs.Carried.{capped_in, reading_in, text_in}
use Rattle.text_read.specs.declared.Reader.{Reader}
use Rattle.text_output.specs.Output.{output, output_of}

-- the buffer o became o', and `number` bytes of it are told
pub record Answered (input o o' : List ℕ) (number : ℕ) : Type 0 where
  -- as many bytes as the output has
  pub many : number ≡ length (output input)
  -- the output stands at the buffer's front, and past it the buffer is as it was
  pub bytes : o' ≡ sets o 0 (output input)
  -- so what is told is the output
  pub told : take number o' ≡ output input

-- the same of what a reader carries
pub record AnsweredRead (k : Reader) (w : Cells) (o o' : List ℕ) (number : ℕ) : Type 0 where
  -- whatever that is
  pub wrote : Wrote o 0 (output_of (text_in k [] w)) o' number
  -- and where it is what a whole input came to, its output is told
  pub whole : (input line : List ℕ) → reading_in k line w ≡ capped_in (over (text_of of_program input)) → Answered input o o' number
  -- no more is told than the buffer holds
  pub fits : number ≤ longest_output

-- tables as long as the program's, filled as far as a state says
pub record InTables (st : State) (w : Cells) : Type 0 where
  pub sane : Sane st w
  pub as_bodies : length w.bodies ≡ program_bodies * body_width
  pub as_floats : length w.floats ≡ program_contacts * floats_width
