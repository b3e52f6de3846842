-- Request E10, "Loads never pull", of the text program's I lines: a normal load is 0 or above, or what was handed in; so none begins with a sign
-- bit, unless it is minus zero or was handed in so. Proved in proofs/Pushing.antt. Assumes nothing.
use Rattle.std.specs.Prelude.{ℕ, ◌+◌, ◌≤◌, ◌<◌, List, ◌⊎◌, ◌≡◌, get_or}
use Rattle.base_places.specs.Places.{floats_width, place, point_place}
use Rattle.base_places.specs.declared.Cell.TheVariants.{NormalImpulse}
use Rattle.base_rows.specs.Rows.{row, rows}
use Rattle.elem_leaves.specs.Signs.{AtLeast0}
use Rattle.list_tables.specs.Tables.{step_at}
use Rattle.call_rules.specs.Demands.{number_of}
use Rattle.text_digits.specs.Bits.{value_of}
use Rattle.text_line.specs.Night.{Night, of_program}
use Rattle.text_read.specs.Text.{reading, text_of}
use Rattle.text_rows.specs.Tables.{points_of}
use Rattle.text_output.specs.Answer.{called}
use Rattle.text_unwritten.specs.Loads.{shown}

-- a pattern begins with a sign bit from here on; this one is minus zero
abbrev pub minus_zero : ℕ
minus_zero = 0x8000_0000

-- the normal load on the I line of point p of contact k (`LoadsAreImpulses`), and the bits that its N line handed in
abbrev pub normal_load : Night → ℕ → ℕ → ℕ
normal_load t k p = shown t.numbers (called t).tables.floats t.floats k p NormalImpulse

abbrev pub handed_in : Night → ℕ → ℕ → ℕ
handed_in t k p = get_or (row floats_width k t.floats) (point_place p + place NormalImpulse) 0

pub record LinePushes (t : Night) (k p : ℕ) : Type 0 where
  -- it is the pattern of a number that is 0 or above, or bit for bit what was handed in; ..
  pub each : AtLeast0 (value_of (normal_load t k p)) ⊎ (normal_load t k p ≡ handed_in t k p)
  -- .. with a sign bit, minus zero or what was handed in
  pub signed : minus_zero ≤ normal_load t k p → (normal_load t k p ≡ minus_zero) ⊎ (normal_load t k p ≡ handed_in t k p)
  -- where a step on the contact was answered 0 and the point has an I line, it is 0 or above; with a sign bit, minus zero
  pub where_done : (i : ℕ) → i < (called t).done → number_of i (called t) ≡ 0 → (step_at t.steps i).contact ≡ k → p < points_of t.numbers k
      → AtLeast0 (value_of (normal_load t k p)) × (minus_zero ≤ normal_load t k p → normal_load t k p ≡ minus_zero)

-- of a text that was read to its end, t being what it says: of every point of every contact
abbrev pub LinesPush : Type 0
LinesPush =
    (s line : List ℕ) (n : ℕ) (t : Night) → text_of of_program s ≡ reading line n t → (k p : ℕ) → k < rows floats_width t.floats → p < 2 → LinePushes t k p
