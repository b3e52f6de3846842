-- The statement of specs/Pushing.antt: a load that a call left is printed as it was read, or as a number of 0 or above. Assumes nothing.
use Prim.Native.Nat.{ℕ, zero, suc, ◌+◌, ◌*◌, ◌≤◌, ◌<◌}
use native.Mathlib.Omega.{arith}
use mathlib.Core.Bool.{Bool, true, false, ◌||◌}
use mathlib.Core.List.{List, [], ◌∷◌, map}
use mathlib.Core.Logic.{◌⊎◌, inl, inr}
use mathlib.Core.Path.{◌≡◌, refl, sym, ap, ◌∙◌, subst}
use lib.Dec.{T, eqb}
use lib.Ieee.{Float, nan, inf, fin, binary32, fits, is_nan, le, lt, eq, of_bits, to_bits}
use lib.Ieee.Bits.{of_bits-fits, of_bits-to_bits}
use lib.Ieee.Fits.{nan-fits}
use lib.ListN.{get_or, length, length-map}
use Rattle.base_words.specs.Choice.{if◌then◌otherwise◌}
use Rattle.base_words.proofs.Pick.{never}
use Rattle.base_places.specs.Places.{floats_width, numbers_width, place, point_place, step_width}
use Rattle.base_places.proofs.Fits.{cell_fits}
use Rattle.base_places.specs.declared.Cell.TheVariants.{NormalImpulse}
use Rattle.base_rows.specs.Rows.{row, rows}
use Rattle.base_rows.proofs.Parts.{part_at}
use Rattle.elem_leaves.specs.Signs.{AtLeast0}
use Rattle.elem_impulse.specs.Pushing.{Pushes}
use Rattle.step_contact.specs.Places.{load, number, place_of}
use Rattle.list_tables.specs.Tables.{contact_at, contact_of, head_of, step_at}
use Rattle.list_tables.proofs.Floats.{contact_there}
use Rattle.list_pushing.specs.Pushing.{load_at}
use Rattle.call_rules.specs.Demands.{number_of}
use Rattle.call_rules.specs.Pushing as call
use Rattle.call_rules.proofs.Pushing.{calls_push}
use Rattle.text_digits.specs.Bits.{printed, value_of}
use Rattle.text_line.specs.Night.{Night, of_program}
use Rattle.text_read.specs.Text.{reading, text_of}
use Rattle.text_held.proofs.Held.{tables_hold}
use Rattle.text_rows.specs.Tables.{points_of}
use Rattle.text_output.specs.Answer.{called, floats_of, lent}
use Rattle.text_unwritten.specs.Pushing.{LinesPush, handed_in, minus_zero, normal_load}
use Rattle.text_unwritten.proofs.AsLong.{called_numbers}
use Rattle.text_unwritten.proofs.AsRead.{prints_read}
use Rattle.text_unwritten.proofs.Loads.{cell_is, row_printed}
use Rattle.text_unwritten.proofs.Signs.{at_least_bits}
use Rattle.text_unwritten.proofs.Small.{bits_small}

by_bits : (bits : ℕ) → (bits < minus_zero) ⊎ (bits ≡ minus_zero) → minus_zero ≤ bits → bits ≡ minus_zero
by_bits bits (inl below) low = absurd (omega arith)
by_bits bits (inr is) low = is

-- a number of 0 or above is printed without a sign bit, or as minus zero, whatever was kept beside it
printed_up : (x : Float) (kept : ℕ) → AtLeast0 x → T (fits binary32 x) → minus_zero ≤ printed x kept → printed x kept ≡ minus_zero
unfolding printed le lt eq is_nan of_bits
printed_up nan kept up fit low = never (sym up)
printed_up (inf s) kept up fit low = by_bits (to_bits binary32 (inf s)) (at_least_bits (inf s) up fit) low
printed_up (fin s m e) kept up fit low = by_bits (to_bits binary32 (fin s m e)) (at_least_bits (fin s m e) up fit) low

-- and read again it is that number
read_again : (x : Float) (kept : ℕ) → AtLeast0 x → T (fits binary32 x) → value_of (printed x kept) ≡ x
unfolding printed le lt eq is_nan of_bits
read_again nan kept up fit = never (sym up)
read_again (inf s) kept up fit = of_bits-to_bits binary32 (inf s) fit
read_again (fin s m e) kept up fit = of_bits-to_bits binary32 (fin s m e) fit

-- what the call leaves of a night
of_night : (t : Night) → call.CallPushes (lent t) (called t)
unfolding called
of_night t = calls_push (lent t) (rows step_width t.steps) (called t) refl

-- every float of a text fits
all_fit : (bits : List ℕ) (j : ℕ) → T (fits binary32 (get_or (map value_of bits) j nan))
all_fit [] j = nan-fits binary32
all_fit (b ∷ bits) zero = of_bits-fits binary32 b
all_fit (b ∷ bits) (suc j) = all_fit bits j

module _ (s line : List ℕ) (n : ℕ) (t : Night) (e : text_of of_program s ≡ reading line n t) (k p : ℕ) (in_table : k < rows floats_width t.floats) (of_two : p < 2) where
  abbrev spot : ℕ
  spot = point_place p + place NormalImpulse

  abbrev old : Float
  old = load (place_of p) (contact_at t.numbers (floats_of t.floats) k)

  abbrev new : Float
  new = load (place_of p) (contact_at t.numbers (called t).tables.floats k)

  -- what was read there, as the call was lent it
  has_numbers : k < rows numbers_width t.numbers
  has_numbers = let w = tables_hold s line n t e in omega (arith, w.numbers, w.floats)

  as_long : length t.floats ≡ length (floats_of t.floats)
  unfolding floats_of
  as_long = sym (length-map t.floats value_of)

  has_floats : k < rows floats_width (floats_of t.floats)
  has_floats = omega (arith, as_long)

  old_is : old ≡ get_or (row floats_width k (floats_of t.floats)) spot nan
  old_is = cell_is t.numbers (floats_of t.floats) t.floats k p as_long has_numbers has_floats of_two NormalImpulse

  -- it is printed as it was read
  old_printed : printed old (handed_in t k p) ≡ handed_in t k p
  old_printed =
      sym (row_printed t.numbers (floats_of t.floats) t.floats k p as_long has_numbers has_floats of_two spot (omega (arith, cell_fits NormalImpulse)) old_is)
      ∙ ap (λ (l : List ℕ). get_or (row floats_width k l) spot 0) (prints_read t.floats (bits_small s line n t e).floats)

  old_fits : T (fits binary32 old)
  unfolding floats_of
  old_fits =
      rw (old_is, part_at (k * floats_width) floats_width (floats_of t.floats) spot nan (omega (arith, cell_fits NormalImpulse)))
      (all_fit t.floats (k * floats_width + spot))

  -- what became of it
  became : Pushes old new
  unfolding lent
  became =
      subst (λ (numbers : List ℕ). Pushes old (load (place_of p) (contact_at numbers (called t).tables.floats k))) (called_numbers t)
      ((of_night t).each_load k (place_of p))

  new_fits : Pushes old new → T (fits binary32 new)
  new_fits (inl same) = rw same old_fits
  new_fits (inr made) = made.1

  each_load : Pushes old new → AtLeast0 (value_of (normal_load t k p)) ⊎ (normal_load t k p ≡ handed_in t k p)
  each_load (inl same) = inr (ap (λ (x : Float). printed x (handed_in t k p)) same ∙ old_printed)
  each_load (inr made) = inl (rw (read_again new (handed_in t k p) made.0 made.1) made.0)

  signed : Pushes old new → minus_zero ≤ normal_load t k p → (normal_load t k p ≡ minus_zero) ⊎ (normal_load t k p ≡ handed_in t k p)
  signed (inl same) low = inr (ap (λ (x : Float). printed x (handed_in t k p)) same ∙ old_printed)
  signed (inr made) low = inl (printed_up new (handed_in t k p) made.0 made.1 low)

  -- a point that has an I line is in use
  in_use : p < points_of t.numbers k → number (place_of p) < (contact_at t.numbers (floats_of t.floats) k).head.count
  unfolding points_of contact_of head_of
  in_use printed-there =
      rw (contact_there t.numbers (floats_of t.floats) k has_numbers has_floats)
      (by_point p of_two (by_count (eqb count 1 || eqb count 2) printed-there))
    where
      count : ℕ
      count = get_or (row numbers_width k t.numbers) 2 0

      by_count : (b : Bool) → p < (if b then count otherwise 0) → p < count
      by_count true h = h
      by_count false h = absurd (omega arith)

      by_point : (q : ℕ) → q < 2 → q < count → number (place_of q) < count
      by_point zero h below = below
      by_point (suc zero) h below = below
      by_point (suc (suc q)) h below = absurd (omega arith)

  where_done : (i : ℕ) → i < (called t).done → number_of i (called t) ≡ 0 → (step_at t.steps i).contact ≡ k → p < points_of t.numbers k → AtLeast0 new
  unfolding lent
  where_done i among done same printed-there =
      subst (λ (numbers : List ℕ). AtLeast0 (load (place_of p) (contact_at numbers (called t).tables.floats k))) (called_numbers t)
      (subst (λ (j : ℕ). AtLeast0 (load_at j (place_of p) (called t).tables)) same
      ((of_night t).where_done i among done (place_of p) (rw same (in_use printed-there))))

pub lines_push : LinesPush
lines_push s line n t e k p in_table of_two =
    let change = became s line n t e k p in_table of_two in
    let left = new s line n t e k p in_table of_two in
    let fit = new_fits s line n t e k p in_table of_two change in
    record {
      each = each_load s line n t e k p in_table of_two change;
      signed = signed s line n t e k p in_table of_two change;
      where_done = λ i among done same printed-there.
          let up = where_done s line n t e k p in_table of_two i among done same printed-there in
          (rw (read_again left (handed_in t k p) up fit) up, printed_up left (handed_in t k p) up fit);
    }
