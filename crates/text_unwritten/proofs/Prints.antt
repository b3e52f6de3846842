-- What is printed of a table's floats, by place and by part. Assumes nothing.
use Prim.Native.Nat.{ℕ, zero, suc, ◌<◌}
use native.Mathlib.Nat.{le_of_suc-le-suc, not-suc-le-zero}
use mathlib.Core.List.{List, [], ◌∷◌}
use mathlib.Core.Path.{◌≡◌, refl, ◌∙◌, ap}
use lib.Ieee.{Float, nan}
use lib.ListN.{drop, get_or, length, take}
use Rattle.base_rows.specs.Rows.{part}
use Rattle.text_digits.specs.Bits.{printed}
use Rattle.text_output.specs.Answer.{prints}

-- a place is printed beside the bits that were kept there
pub prints_at : (xs : List Float) (kept : List ℕ) (i : ℕ) → i < length xs → i < length kept
    → get_or (prints xs kept) i 0 ≡ printed (get_or xs i nan) (get_or kept i 0)
unfolding prints
prints_at [] kept i h j = absurd (not-suc-le-zero h)
prints_at (x ∷ xs) [] i h j = absurd (not-suc-le-zero j)
prints_at (x ∷ xs) (k ∷ kept) zero h j = refl
prints_at (x ∷ xs) (k ∷ kept) (suc i) h j = prints_at xs kept i (le_of_suc-le-suc h) (le_of_suc-le-suc j)

-- the first n
prints_take : (n : ℕ) (xs : List Float) (kept : List ℕ) → take n (prints xs kept) ≡ prints (take n xs) (take n kept)
unfolding prints
prints_take zero [] kept = refl
prints_take zero (x ∷ xs) [] = refl
prints_take zero (x ∷ xs) (k ∷ kept) = refl
prints_take (suc n) [] kept = refl
prints_take (suc n) (x ∷ xs) [] = refl
prints_take (suc n) (x ∷ xs) (k ∷ kept) = ap (λ (l : List ℕ). printed x k ∷ l) (prints_take n xs kept)

-- all after them
prints_drop : (n : ℕ) (xs : List Float) (kept : List ℕ) → drop n (prints xs kept) ≡ prints (drop n xs) (drop n kept)
unfolding prints
prints_drop zero xs kept = refl
prints_drop (suc n) [] kept = refl
prints_drop (suc n) (x ∷ xs) [] = none (drop n xs)
  where
    none : (l : List Float) → [] ≡ prints l []
    none [] = refl
    none (y ∷ l) = refl
prints_drop (suc n) (x ∷ xs) (k ∷ kept) = prints_drop n xs kept

-- a part is printed from its floats beside its bits
pub prints_part : (a n : ℕ) (xs : List Float) (kept : List ℕ) → part a n (prints xs kept) ≡ prints (part a n xs) (part a n kept)
unfolding part
prints_part a n xs kept = ap (take n) (prints_drop a xs kept) ∙ prints_take n (drop a xs) (drop a kept)
