-- A list of steps, two numbers at a time: its first step, and those after it. Assumes nothing.
use Prim.Native.Nat.{ℕ, suc, ◌*◌, ◌<◌}
use native.Mathlib.Omega.{arith}
use native.Mathlib.Decide.{dec_lt}
use mathlib.Core.List.{List, ◌∷◌}
use mathlib.Core.Path.{◌≡◌, refl, sym, ◌∙◌, ap}
use lib.ListN.{drop, take}
use Rattle.base_places.specs.Places.{step_width}
use Rattle.base_rows.specs.Rows.{part, read_row, rows}
use Rattle.base_rows.proofs.Lent.{read_past}
use Rattle.base_rows.proofs.Places.{read_row_lem}
use Rattle.list_tables.specs.Tables.{step_as, step_at, step_of}

module _ (a b : ℕ) (l : List ℕ) where
  -- two numbers more are a row more
  pub rows_more : rows step_width (a ∷ b ∷ l) ≡ suc (rows step_width l)
  rows_more = omega arith

  pub step_first : step_at (a ∷ b ∷ l) 0 ≡ step_as a b
  unfolding step_at step_of part
  step_first = read_row_lem step_width 0 step_of (step_as 0 0) (a ∷ b ∷ l) (omega (arith, rows_more))

  pub step_later : (i : ℕ) → step_at (a ∷ b ∷ l) (suc i) ≡ step_at l i
  unfolding step_at part
  step_later i = by_case (dec_lt i (rows step_width l))
    where
      two_more : (j : ℕ) → suc j * 2 ≡ suc (suc (j * 2))
      two_more j = omega arith

      by_case : Dec (i < rows step_width l) → read_row step_width (suc i) step_of (step_as 0 0) (a ∷ b ∷ l) ≡ read_row step_width i step_of (step_as 0 0) l
      by_case (yes h) =
          read_row_lem step_width (suc i) step_of (step_as 0 0) (a ∷ b ∷ l) (omega (arith, rows_more))
          ∙ ap (λ (k : ℕ). step_of (take 2 (drop k (a ∷ b ∷ l)))) (two_more i)
          ∙ sym (read_row_lem step_width i step_of (step_as 0 0) l h)
      by_case (no nl) =
          sym (read_past step_width (suc i) (a ∷ b ∷ l) step_of (step_as 0 0) (omega (arith, nl, rows_more)) refl)
          ∙ read_past step_width i l step_of (step_as 0 0) (omega (arith, nl)) refl
