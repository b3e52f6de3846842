-- The places that I lines read are those of the contacts' impulses. Assumes nothing.
use Prim.Native.Nat.{ℕ, zero, suc, ◌+◌, ◌*◌, ◌≤◌, ◌<◌}
use native.Mathlib.Omega.{arith}
use mathlib.Core.List.{List, [], ◌∷◌, map}
use mathlib.Core.Path.{◌≡◌, refl, sym, ◌∙◌, ap, ap₂}
use lib.Ieee.{Float, nan}
use lib.ListN.{get_or, length}
use Rattle.base_places.specs.Places.{floats_width, numbers_width, place, point_place, point_width}
use Rattle.base_places.proofs.Fits.{cell_fits}
use Rattle.base_places.specs.declared.Cell.{Cell}
use Rattle.step_contact.specs.Cells.{in_cell}
use Rattle.step_contact.specs.Places.{place_of, point}
use Rattle.base_rows.specs.Rows.{part, row, rows}
use Rattle.base_rows.proofs.Laws.{row_fits}
use Rattle.base_rows.proofs.Parts.{length_part, part_at}
use Rattle.list_tables.specs.Tables.{contact_at, contact_of, point_of}
use Rattle.list_tables.proofs.Floats.{cell_read, contact_there, its_points}
use Rattle.text_digits.specs.Bits.{printed}
use Rattle.text_held.proofs.Held.{tables_hold}
use Rattle.text_output.specs.Answer.{called, prints}
use Rattle.text_write.specs.Lines.{line}
use Rattle.text_rows.specs.Tables.{i_line, loads}
use Rattle.text_unwritten.specs.Loads.{LoadsAreImpulses, LoadsLine}
use Rattle.text_unwritten.proofs.AsLong.{called_as_long}
use Rattle.text_unwritten.proofs.Prints.{prints_at, prints_part}

-- a point's floats among a contact's
point_of_lem : (numbers : List ℕ) (l : List Float) (p : ℕ) → p < 2 → point (place_of p) (contact_of numbers l) ≡ point_of (part (point_place p) point_width l)
point_of_lem numbers l zero h = (its_points numbers l).0
point_of_lem numbers l (suc zero) h = (its_points numbers l).1
point_of_lem numbers l (suc (suc p)) h = absurd (omega arith)

-- the same of each
each_same : (f g : Cell → ℕ) → ((c : Cell) → f c ≡ g c) → (l : List Cell) → map f l ≡ map g l
each_same f g h [] = refl
each_same f g h (c ∷ l) = ap₂ (λ (n : ℕ) (m : List ℕ). n ∷ m) (h c) (each_same f g h l)

module _ (numbers : List ℕ) (floats : List Float) (kept : List ℕ) (k p : ℕ) (as_long : length kept ≡ length floats)
    (has_numbers : k < rows numbers_width numbers) (has_floats : k < rows floats_width floats) (of_two : p < 2) where
  -- what is printed at place i of a contact's floats, where x stands there
  pub row_printed : (i : ℕ) → i < floats_width → {x : Float} → x ≡ get_or (row floats_width k floats) i nan
      → get_or (row floats_width k (prints floats kept)) i 0 ≡ printed x (get_or (row floats_width k kept) i 0)
  row_printed i h e =
      let fits : k * floats_width + floats_width ≤ length floats = row_fits floats_width k (λ l. l) floats has_floats in
      ap (λ (l : List ℕ). get_or l i 0) (prints_part (k * floats_width) floats_width floats kept)
      ∙ prints_at (row floats_width k floats) (row floats_width k kept) i (rw (length_part (k * floats_width) floats_width floats fits) h)
      (rw (length_part (k * floats_width) floats_width kept (omega arith)) h)
      ∙ ap (λ (y : Float). printed y (get_or (row floats_width k kept) i 0)) (sym e)

  pub cell_is : (c : Cell) → in_cell c (point (place_of p) (contact_at numbers floats k)) ≡ get_or (row floats_width k floats) (point_place p + place c) nan
  cell_is c =
      ap (λ q. in_cell c (point (place_of p) q)) (contact_there numbers floats k has_numbers has_floats)
      ∙ ap (in_cell c) (point_of_lem (row numbers_width k numbers) (row floats_width k floats) p of_two)
      ∙ cell_read c (part (point_place p) point_width (row floats_width k floats))
      ∙ part_at (point_place p) point_width (row floats_width k floats) (place c) nan (cell_fits c)

  loads_line : LoadsLine numbers floats kept k p
  unfolding i_line
  loads_line =
      ap (line 73 (k ∷ p ∷ []))
      (each_same _ _ (λ c. row_printed (point_place p + place c) (omega (arith, cell_fits c)) (cell_is c)) loads)

-- every contact of a text has its three numbers beside its floats, and the call leaves as many floats as were read
pub loads_are_impulses : LoadsAreImpulses
loads_are_impulses s line n t e k p in_table of_two =
    let w = tables_hold s line n t e in
    let long = called_as_long t in
    loads_line t.numbers (called t).tables.floats t.floats k p (sym long) (omega (arith, w.numbers, w.floats))
    (omega (arith, long)) of_two
