-- What a text says that the program's tables hold: whole rows; and no more lines than the tables have room for, so that a line's number is
-- never cut short. Proved in proofs/Held.antt. Assumes nothing.
use Rattle.std.specs.Prelude.{ℕ, ◌+◌, ◌*◌, ◌≤◌, List, ◌≡◌, length}
use Rattle.base_places.specs.Places.{body_width, floats_width, numbers_width, step_width}
use Rattle.base_places.specs.Lengths.{program_bodies, program_contacts, program_steps}
use Rattle.text_line.specs.Night.{Night, of_program}
use Rattle.text_read.specs.Text.{Text, reading, refused, text_of}
use Rattle.text_read.specs.Carried.{capped}

-- a good text says whole rows, so many bodies, contacts and steps, and no more than the program's tables hold
pub record WholeRows (t : Night) : Type 0 where
  pub b : ℕ
  pub c : ℕ
  pub s : ℕ
  pub bodies : length t.bodies ≡ b * body_width
  pub numbers : length t.numbers ≡ c * numbers_width
  pub floats : length t.floats ≡ c * floats_width
  pub steps : length t.steps ≡ s * step_width
  pub few_bodies : b ≤ program_bodies
  pub few_contacts : c ≤ program_contacts
  pub few_steps : s ≤ program_steps

abbrev pub TablesHold : Type 0
TablesHold = (s line : List ℕ) (n : ℕ) (t : Night) → text_of of_program s ≡ reading line n t → WholeRows t

-- the number of the line that a text has come to, or of its bad one
abbrev pub line_number : Text → ℕ
line_number (reading line n t) = n
line_number (refused n reason t) = n

-- a contact has five lines: C, N, T, N, T
abbrev pub most_lines : ℕ
most_lines = program_bodies + program_contacts * 5 + program_steps

-- no line's number goes past the lines that the program's tables hold, and one
abbrev pub FewLines : Type 0
FewLines = (s : List ℕ) → line_number (text_of of_program s) ≤ most_lines + 1

-- so it never goes past a machine word
abbrev pub CapNever : Type 0
CapNever = (s : List ℕ) → capped (text_of of_program s) ≡ text_of of_program s
