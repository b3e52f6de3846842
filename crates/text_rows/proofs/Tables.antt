-- Lines of a table's rows, from the part that was lent; and how many points of a contact have a line. Assumes nothing.
use Prim.Native.Nat.{ℕ, ◌+◌, ◌*◌, ◌-◌, ◌/◌, ◌%◌, ◌≤◌, ◌<◌}
use native.Mathlib.Omega.{arith}
use mathlib.Core.Path.{◌≡◌}
use mathlib.Core.List.{List, [], ◌∷◌}
use borrow.Author.Tests.{le-ltb, lt-ltb, ne_eqb}
use lib.ListN.{drop, get_or, length, length-drop, length-take, get_or-eq_default, take}
use Rattle.base_places.specs.Places.{floats_width, numbers_width, place, point_place}
use Rattle.base_places.specs.declared.Cell.TheVariants.{NormalImpulse, TangentImpulse}
use Rattle.text_digits.specs.declared.Page.{Page}
use Rattle.text_digits.specs.Wrote.{Writes}
use Rattle.text_digits.proofs.Then.{idle}
use Rattle.base_rows.specs.Rows.{part, row, rows}
use Rattle.base_rows.proofs.Lent.{between}
use Rattle.text_write.specs.Lines.{line}
use Rattle.text_rows.specs.Tables.{i_line, point_line, points_of}

-- row k of n numbers, as it is lent
abbrev lent : ℕ → ℕ → List ℕ → List ℕ
lent n k l = take (k * n + n - k * n) (drop (k * n) l)

module _ {p q : Page} where
  pub i_written : (floats : List ℕ) (k point : ℕ)
      → Writes p
      (line 73 (k ∷ point ∷ [])
      (get_or (lent floats_width k floats) (point_place point + place NormalImpulse) 0
      ∷ get_or (lent floats_width k floats) (point_place point + place TangentImpulse) 0
      ∷ []))
      q
      → Writes p (i_line floats k point) q
  unfolding i_line
  i_written floats k point v = rw (between (k * floats_width) floats_width floats) at v

  -- a point below count has a line, any other has none
  pub point_written : (numbers floats : List ℕ) (j : ℕ) {n : ℕ} → n ≡ points_of numbers (j / 2) → j % 2 < n
      → Writes p (i_line floats (j / 2) (j % 2)) q → Writes p (point_line numbers floats j) q
  unfolding point_line
  point_written numbers floats j e h v = rw (lt-ltb (j % 2) (points_of numbers (j / 2)) (rw e at h)) v

pub no_point : (numbers floats : List ℕ) (j : ℕ) {p : Page} {n : ℕ} → n ≡ points_of numbers (j / 2) → n ≤ j % 2 → p.at ≤ length p.out.now
    → Writes p (point_line numbers floats j) p
unfolding point_line
no_point numbers floats j {p} e h fits = rw (le-ltb (j % 2) (points_of numbers (j / 2)) (rw e at h)) (idle p fits)

module _ (numbers : List ℕ) (k : ℕ) where
  pub one_point : get_or (lent numbers_width k numbers) 2 0 ≡ 1 → 1 ≡ points_of numbers k
  unfolding points_of
  one_point e = rw (rw (between (k * numbers_width) numbers_width numbers) at e)

  pub two_points : get_or (lent numbers_width k numbers) 2 0 ≡ 2 → 2 ≡ points_of numbers k
  unfolding points_of
  two_points e = rw (rw (between (k * numbers_width) numbers_width numbers) at e)

  pub no_points : (get_or (lent numbers_width k numbers) 2 0 ≡ 1 → ⊥) → (get_or (lent numbers_width k numbers) 2 0 ≡ 2 → ⊥) → 0 ≡ points_of numbers k
  unfolding points_of
  no_points p q = rw (← between (k * numbers_width) numbers_width numbers, ne_eqb _ 1 p, ne_eqb _ 2 q)

  -- past the last row the count is read as 0
  pub no_row : rows numbers_width numbers ≤ k → 0 ≡ points_of numbers k
  unfolding points_of part
  no_row h =
      let e : get_or (row numbers_width k numbers) 2 0 ≡ 0 = get_or-eq_default (row numbers_width k numbers) 0 (simp (length-take, length-drop) (omega arith)) in
      rw e
