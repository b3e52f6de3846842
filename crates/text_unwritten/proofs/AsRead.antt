-- A body that no done step wrote is printed with the bits that were read. Assumes nothing.
use Prim.Native.Nat.{ℕ, ◌*◌}
use mathlib.Core.List.{List, [], ◌∷◌}
use mathlib.Core.Path.{◌≡◌, refl, sym, ◌∙◌, ap, ap₂}
use lib.Ieee.{Float}
use Rattle.base_places.specs.Places.{body_width, step_width}
use Rattle.base_rows.specs.Rows.{row, rows}
use Rattle.text_digits.proofs.Printed as digits
use Rattle.text_fields.specs.Got.{Small, most}
use Rattle.text_fields.specs.declared.Form.TheVariants.{Hex}
use Rattle.text_line.specs.Night.{Night}
use Rattle.text_rows.specs.Tables.{b_line}
use Rattle.text_output.specs.Answer.{called, floats_of, lent, prints}
use Rattle.text_unwritten.specs.AsRead.{BodiesAsRead, Unwritten}
use Rattle.text_unwritten.proofs.Kept.{body_kept}
use Rattle.text_unwritten.proofs.Prints.{prints_part}
use Rattle.text_unwritten.proofs.Small.{bits_small}

-- floats as they were read are printed with the bits that were read
pub prints_read : (bits : List ℕ) → Small (most Hex) bits → prints (floats_of bits) bits ≡ bits
unfolding prints floats_of
prints_read [] h = refl
prints_read (b ∷ bits) h = ap₂ (λ (n : ℕ) (l : List ℕ). n ∷ l) (digits.printed_as_read b h.0) (prints_read bits h.1)

-- so is a row of them, whatever stands in the others
row_read : (floats : List Float) (bits : List ℕ) (i : ℕ) → Small (most Hex) bits → row body_width i floats ≡ row body_width i (floats_of bits)
    → row body_width i (prints floats bits) ≡ row body_width i bits
row_read floats bits i small same =
    prints_part (i * body_width) body_width floats bits
    ∙ ap (λ (l : List Float). prints l (row body_width i bits)) same
    ∙ sym (prints_part (i * body_width) body_width (floats_of bits) bits)
    ∙ ap (row body_width i) (prints_read bits small)

-- the call leaves the row as it was read
row_left : (t : Night) (i : ℕ) → Unwritten t i → row body_width i (called t).tables.bodies ≡ row body_width i (floats_of t.bodies)
unfolding called lent
row_left t i unwritten = body_kept (lent t) (rows step_width t.steps) (called t) refl i unwritten

pub bodies_as_read : BodiesAsRead
unfolding b_line
bodies_as_read s line n t e i in_table unwritten =
    rw (row_read (called t).tables.bodies t.bodies i (bits_small s line n t e).bodies (row_left t i unwritten))
