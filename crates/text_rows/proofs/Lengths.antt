-- How long the tables' lines are at most. Assumes nothing.
use Prim.Native.Nat.{ℕ, ◌*◌, ◌/◌, ◌%◌, ◌≤◌, ◌<◌}
use native.Mathlib.Decide.{dec_lt}
use native.Mathlib.Omega.{arith}
use mathlib.Core.Bool.{Bool, true, false}
use mathlib.Core.List.{List, []}
use lib.Dec.{ltb}
use lib.ListN.{drop, get_or, length, length-drop, length-take, get_or-eq_default}
use Rattle.base_words.specs.Choice.{if◌then◌otherwise◌}
use Rattle.base_places.specs.Places.{answer_width, body_width, floats_width}
use Rattle.base_places.specs.Lengths.{line_bytes}
use Rattle.base_rows.specs.Rows.{part, row, rows}
use Rattle.base_rows.proofs.Parts.{part_at}
use Rattle.text_write.proofs.Lengths.{Small, each_length, short_line, two_small}
use Rattle.text_rows.specs.Tables.{Answers, Bodies, Loads, a_line, b_line, i_line, listing, point_line, points_of}

-- what a part has stands in the whole
pub part_small : (a n : ℕ) (l : List ℕ) → Small l → Small (part a n l)
unfolding part
part_small a n l h i = side (dec_lt i n)
  where
    side : Dec (i < n) → get_or (part a n l) i 0 < 65536
    side (yes k) = rw (part_at a n l i 0 k) (h _)
    side (no k) = rw (get_or-eq_default (part a n l) 0 {n = i} (simp (length-take, length-drop) (omega arith))) (omega arith)

part_short : (a n : ℕ) (l : List ℕ) → length (part a n l) ≤ n
unfolding part
part_short a n l = omega (arith, length-take n (drop a l))

module _ (numbers bits : List ℕ) where
  pub answers_length : Small numbers → length (listing Answers numbers bits) ≤ rows answer_width numbers * line_bytes answer_width 0
  unfolding listing a_line
  answers_length h = each_length (a_line numbers) (line_bytes answer_width 0) (rows answer_width numbers) one
    where
      one : (i : ℕ) → i < rows answer_width numbers → length (a_line numbers i) ≤ line_bytes answer_width 0
      one i there =
          let its : List ℕ = row answer_width i numbers in
          omega (
            arith,
            short_line 65 its [] (part_small (i * answer_width) answer_width numbers h),
            part_short (i * answer_width) answer_width numbers,
          )

  pub bodies_length : length (listing Bodies numbers bits) ≤ rows body_width bits * line_bytes 0 body_width
  unfolding listing b_line
  bodies_length = each_length (b_line bits) (line_bytes 0 body_width) (rows body_width bits) one
    where
      one : (i : ℕ) → i < rows body_width bits → length (b_line bits i) ≤ line_bytes 0 body_width
      one i there =
          omega (arith, short_line 66 [] (row body_width i bits) (λ i. omega arith), part_short (i * body_width) body_width bits)

  pub loads_length : rows floats_width bits ≤ 65536 → length (listing Loads numbers bits) ≤ rows floats_width bits * 2 * line_bytes 2 2
  unfolding listing point_line i_line
  loads_length few = each_length (point_line numbers bits) (line_bytes 2 2) (rows floats_width bits * 2) one
    where
      side : (j : ℕ) (t : Bool) → j / 2 < 65536 → length (if t then i_line bits (j / 2) (j % 2) otherwise []) ≤ line_bytes 2 2
      side j true h = short_line 73 _ _ (two_small (j / 2) (j % 2) h (omega arith))
      side j false h = omega arith

      one : (j : ℕ) → j < rows floats_width bits * 2 → length (point_line numbers bits j) ≤ line_bytes 2 2
      one j there = side j (ltb (j % 2) (points_of numbers (j / 2))) (omega arith)
