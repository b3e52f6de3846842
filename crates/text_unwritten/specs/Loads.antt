-- Document 01, "Text form": "A sheet's load is the impulse on its I line": what an I line reads are the contact's
-- impulses. Proved in proofs/Loads.antt. Assumes nothing.
use Rattle.std.specs.Prelude.{ℕ, ◌+◌, ◌<◌, List, [], ◌∷◌, map, ◌≡◌, Float, get_or}
use Rattle.base_places.specs.Places.{floats_width, place, point_place}
use Rattle.base_places.specs.declared.Cell.{Cell}
use Rattle.base_rows.specs.Rows.{row, rows}
use Rattle.step_contact.specs.Cells.{in_cell}
use Rattle.step_contact.specs.Places.{place_of, point}
use Rattle.list_tables.specs.Tables.{contact_at}
use Rattle.text_digits.specs.Bits.{printed}
use Rattle.text_line.specs.Night.{Night, of_program}
use Rattle.text_read.specs.Text.{reading, text_of}
use Rattle.text_write.specs.Lines.{line}
use Rattle.text_rows.specs.Tables.{i_line, loads}
use Rattle.text_output.specs.Answer.{called, prints}

-- what is printed of a cell of point p of contact k, from the floats that the call left and the bits kept beside them
abbrev pub shown : List ℕ → List Float → List ℕ → ℕ → ℕ → Cell → ℕ
shown numbers floats kept k p c = printed (in_cell c (point (place_of p) (contact_at numbers floats k))) (get_or (row floats_width k kept) (point_place p + place c) 0)

-- the I line of that point: after its two numbers, what is printed of the contact's loads there
abbrev pub LoadsLine : List ℕ → List Float → List ℕ → ℕ → ℕ → Type 0
LoadsLine numbers floats kept k p = i_line (prints floats kept) k p ≡ line 73 (k ∷ p ∷ []) (map (shown numbers floats kept k p) loads)

-- of a text that was read to its end, t being what it says: so is the I line of every point of every contact
abbrev pub LoadsAreImpulses : Type 0
LoadsAreImpulses =
    (s line : List ℕ) (n : ℕ) (t : Night) → text_of of_program s ≡ reading line n t → (k p : ℕ) → k < rows floats_width t.floats → p < 2
    → LoadsLine t.numbers (called t).tables.floats t.floats k p
