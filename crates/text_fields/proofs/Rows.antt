-- A line's letter, and what the fields after it say, from what was read of them in turn. Assumes nothing.
use Prim.Native.Nat.{ℕ, ◌+◌, ◌≤◌, ◌<◌}
use native.Mathlib.Omega.{arith}
use borrow.Author.Tests.{eq-eqb, ne_eqb}
use mathlib.Core.List.{List, [], ◌∷◌, ◌++◌}
use mathlib.Core.Path.{◌≡◌, refl, sym, ◌∙◌}
use lib.ListN.{drop, get_or, length, replicate, take}
use lib.Seq.{length-take-le, take_at}
use Rattle.std.specs.Prelude.{Option, Some, None}
use Rattle.base_places.specs.Places.{normal_width}
use Rattle.text_fields.specs.Fields.{ended, fields, fields_from, then_bits, until, values}
use Rattle.text_fields.specs.Got.{Adds, ReadFields, ReadRow, Small, most, row_says}
use Rattle.text_fields.specs.Letters.{after_letter, asked, letter_in, letter_of, line_letter, says}
use Rattle.text_fields.specs.declared.Counts.{Counts}
use Rattle.text_fields.specs.declared.Form.TheVariants.{Decimal, Hex}
use Rattle.text_fields.specs.declared.Letter.{Letter}
use Rattle.text_fields.specs.declared.Letter.TheVariants.{Other}
use Rattle.text_fields.proofs.Small.{both_small, drop_small, zeros_small}
use Rattle.text_fields.proofs.Until.{first, from_zero, past}

-- what stands where no field was read
abbrev blank : List ℕ
blank = replicate normal_width 0

blank_small : (k : ℕ) → Small (most Decimal) (drop k blank)
blank_small k = drop_small (most Decimal) k blank (zeros_small (most Decimal) normal_width)

-- the line's first field ends at `end`
module _ (s : List ℕ) (end : ℕ) (at_end : end ≡ 0 + until 9 (drop 0 s)) where
  parted : fields s ≡ take end s ∷ fields_from s (end + 1)
  parted =
      let e : 0 + until 9 s ≡ end = omega arith in
      let e' : until 9 s ≡ end = omega arith in
      rw (e, e') at (sym (from_zero s) ∙ first s 0 (omega arith))

  after : after_letter (fields s) ≡ fields_from s (end + 1)
  unfolding after_letter
  after = rw parted

  head_of : (l : List ℕ) → 0 < length l → get_or (take 1 l) 0 0 ≡ get_or l 0 0
  head_of [] h = absurd (omega arith)
  head_of (b ∷ l) h = refl

  pub one_byte : end ≤ length s → end ≡ 1 → {l : Letter} → l ≡ letter_of (get_or s 0 0) → l ≡ line_letter s
  unfolding line_letter letter_in
  one_byte h e is =
      let long : length (take end s) ≡ 1 = length-take-le end s h ∙ e in
      let head : get_or (take end s) 0 0 ≡ get_or s 0 0 = rw e (head_of s (omega arith)) in
      rw (parted, eq-eqb _ _ long, head, ← is)

  pub no_letter : end ≤ length s → (end ≡ 1 → ⊥) → Other ≡ line_letter s
  unfolding line_letter letter_in
  no_letter h p =
      let other : length (take end s) ≡ 1 → ⊥ = λ e. p (sym (length-take-le end s h) ∙ e) in
      rw (parted, ne_eqb _ _ other)

  -- what the fields after it say: decimal numbers, then floats, as many as the letter adds
  module _ (l : Letter) {cells : Counts} (a : Adds l cells) where
    counted : length (take (cells.numbers + cells.steps) blank) ≡ asked Decimal l
    counted = length-take-le _ blank a.few.0 ∙ rw (a.numbers, a.steps)

    measured : length (take (cells.bodies + cells.floats) blank) ≡ asked Hex l
    measured = length-take-le _ blank a.few.1 ∙ rw (a.bodies, a.floats)

    module _ {numbers : List ℕ} {r : Option ℕ}
        (one : ReadFields Decimal s (end + 1) (length (take (cells.numbers + cells.steps) blank)) numbers r) where
      pub no_numbers : r ≡ None → ReadRow l s None
      unfolding row_says says values then_bits
      no_numbers e = record { is = rw (after, ← counted, ← one.is, e) refl; small = tt }

      module _ (middle : ℕ) (got : r ≡ Some middle) {bits : List ℕ} {r2 : Option ℕ}
          (two : ReadFields Hex s middle (length (take (cells.bodies + cells.floats) blank)) bits r2) where
        pub no_bits : r2 ≡ None → ReadRow l s None
        unfolding row_says says values then_bits ended
        no_bits e = record { is = rw (after, ← counted, ← measured, ← one.is, got, ← two.is, e) refl; small = tt }

        -- by whether a field is left over
        module _ (next : ℕ) (got2 : r2 ≡ Some next) where
          pub whole_row : length s < next → length numbers ≡ length (take (cells.numbers + cells.steps) blank)
              → length bits ≡ length (take (cells.bodies + cells.floats) blank)
              → ReadRow l s (Some (record { numbers = numbers ++ drop (cells.numbers + cells.steps) blank; bits = bits ++ drop (cells.bodies + cells.floats) blank }))
          unfolding row_says says values then_bits ended
          whole_row h n m =
              let front = take_at numbers (drop (cells.numbers + cells.steps) blank) (asked Decimal l) (n ∙ counted) in
              let front2 = take_at bits (drop (cells.bodies + cells.floats) blank) (asked Hex l) (m ∙ measured) in
              record {
                is = rw (front, front2, after, ← counted, ← measured, ← one.is, got, ← two.is, got2, past s next h) refl;
                small = both_small (most Decimal) numbers (drop (cells.numbers + cells.steps) blank) (rw got at one.small) (blank_small (cells.numbers + cells.steps));
              }

          pub left_over : next ≤ length s → ReadRow l s None
          unfolding row_says says values then_bits ended
          left_over h = record {
            is = rw (after, ← counted, ← measured, ← one.is, got, ← two.is, got2, first s next h) refl;
            small = tt;
          }
