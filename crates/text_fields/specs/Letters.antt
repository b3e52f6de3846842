-- Document 01, "Text form": the letters, and how many numbers follow each. Assumes nothing.
use Rattle.std.specs.Prelude.{ℕ, ◌+◌, List, [], ◌∷◌, eqb, get_or, length, Option}
use Rattle.base_words.specs.Choice.{if◌then◌otherwise◌}
use Rattle.base_places.specs.Places.{body_width, head_width, normal_width, numbers_width, step_width, tangent_width}
use Rattle.text_fields.specs.Fields.{Values, fields, values}
use Rattle.text_fields.specs.declared.Counts.{Counts}
use Rattle.text_fields.specs.declared.Form.{Form}
use Rattle.text_fields.specs.declared.Form.TheVariants.{Decimal, Hex}
use Rattle.text_fields.specs.declared.Letter.{Letter}
use Rattle.text_fields.specs.declared.Letter.TheVariants.{Body, Contact, Normal, Tangent, Step, Other}

-- B, C, N, T and S; any other byte is no known letter
unfoldable pub letter_of : ℕ → Letter
letter_of b =
    if eqb b 66 then Body
    otherwise if eqb b 67 then Contact
    otherwise if eqb b 78 then Normal
    otherwise if eqb b 84 then Tangent
    otherwise if eqb b 83 then Step
    otherwise Other

-- "first field no known letter (an empty line too)": one byte, and a known one
unfoldable pub letter_in : List (List ℕ) → Letter
letter_in [] = Other
letter_in (f ∷ fs) = if eqb (length f) 1 then letter_of (get_or f 0 0) otherwise Other

-- B (x y w); C (body1 body2 count dir.x dir.y im1.x im1.y im2.x im2.y friction k12 flag); N, T "in the field orders above";
-- S (contact kind): how many numbers a line adds to each table
abbrev pub adds : Letter → Counts
adds Body = record { bodies = body_width; numbers = 0; floats = 0; steps = 0 }
adds Contact = record { bodies = 0; numbers = numbers_width; floats = head_width; steps = 0 }
adds Normal = record { bodies = 0; numbers = 0; floats = normal_width; steps = 0 }
adds Tangent = record { bodies = 0; numbers = 0; floats = tangent_width; steps = 0 }
adds Step = record { bodies = 0; numbers = 0; floats = 0; steps = step_width }
adds Other = record { bodies = 0; numbers = 0; floats = 0; steps = 0 }

-- the fields of each form that a letter has: contacts' numbers and steps are decimal, all else are floats
abbrev pub asked : Form → Letter → ℕ
asked Decimal l = (adds l).numbers + (adds l).steps
asked Hex l = (adds l).bodies + (adds l).floats

-- the fields after the letter
unfoldable pub after_letter : List (List ℕ) → List (List ℕ)
after_letter [] = []
after_letter (f ∷ fs) = fs

-- what a line of a letter says; none, where its fields are not of its letter's number or form
unfoldable pub says : Letter → List ℕ → Option Values
says l line = values (asked Decimal l) (asked Hex l) (after_letter (fields line))

-- the letter of a line
unfoldable pub line_letter : List ℕ → Letter
line_letter line = letter_in (fields line)
