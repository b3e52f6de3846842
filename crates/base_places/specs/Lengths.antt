-- Document 01, "Tables" and "Text form", as numbers: how much the text program holds, how long a line and an output can be, and how far a count goes.
-- src/lib.rt says the same for code; every other file has these names, and no number of its own. Assumes nothing.
use Rattle.std.specs.Prelude.{ℕ, ◌+◌, ◌*◌, min}
use Rattle.base_places.specs.Places.{answer_width, body_width}

-- "The text program holds 64, 64 and 256"
abbrev pub program_bodies : ℕ
program_bodies = 64

abbrev pub program_contacts : ℕ
program_contacts = 64

abbrev pub program_steps : ℕ
program_steps = 256

-- a field: a tab and at most five digits, for "0 to 65535", or a tab and "eight lower-case hex digits"
abbrev pub number_bytes : ℕ
number_bytes = 1 + 5

abbrev pub float_bytes : ℕ
float_bytes = 1 + 8

-- a line of so many numbers and floats: a letter, its fields, byte 10
abbrev pub line_bytes : ℕ → ℕ → ℕ
line_bytes numbers floats = 2 + numbers * number_bytes + floats * float_bytes

-- "160 leaves it out": no good line is longer, without its byte 10
abbrev pub most_in_line : ℕ
most_in_line = 160

-- no output is longer than 9,550 bytes: an A for each step, all B, an I for each point, E
abbrev pub longest_output : ℕ
longest_output =
    program_steps * line_bytes answer_width 0
    + program_bodies * line_bytes 0 body_width
    + program_contacts * 2 * line_bytes 2 2
    + line_bytes 2 0

-- a program reads its input in portions; the replay tells at most so much of each
abbrev pub portion_bytes : ℕ
portion_bytes = 4096

abbrev pub told_bytes : ℕ
told_bytes = 64 * portion_bytes

-- the largest number of a machine word, past which no count goes
abbrev pub largest : ℕ
largest = 18446744073709551615

abbrev pub one_more : ℕ → ℕ
one_more n = min (n + 1) largest
