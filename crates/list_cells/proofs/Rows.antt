-- Rows of two and three cells, every one written. Assumes nothing.
use native.Mathlib.Omega.{arith}
use mathlib.Core.Path.{◌≡◌, refl}
use mathlib.Core.List.{List, [], ◌∷◌}
use lib.ListN.{length, set}

module _ {A : Type 0} (x y : A) where
  pub two_cells : (l : List A) → length l ≡ 2 → set (set l 0 x) 1 y ≡ x ∷ y ∷ []
  two_cells [] e = absurd (omega (arith, e))
  two_cells (_ ∷ []) e = absurd (omega (arith, e))
  two_cells (_ ∷ _ ∷ []) e = refl
  two_cells (_ ∷ _ ∷ _ ∷ l) e = absurd (omega (arith, e))

  pub three_cells : (z : A) (l : List A) → length l ≡ 3 → set (set (set l 0 x) 1 y) 2 z ≡ x ∷ y ∷ z ∷ []
  three_cells z [] e = absurd (omega (arith, e))
  three_cells z (_ ∷ []) e = absurd (omega (arith, e))
  three_cells z (_ ∷ _ ∷ []) e = absurd (omega (arith, e))
  three_cells z (_ ∷ _ ∷ _ ∷ []) e = refl
  three_cells z (_ ∷ _ ∷ _ ∷ _ ∷ l) e = absurd (omega (arith, e))
