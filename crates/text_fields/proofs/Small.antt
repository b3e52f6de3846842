-- Lists of numbers none of which is larger than so much. Assumes nothing.
use Prim.Native.Nat.{ℕ, zero, suc, ◌≤◌}
use native.Mathlib.Omega.{arith}
use mathlib.Core.List.{List, [], ◌∷◌, ◌++◌}
use mathlib.Core.Path.{◌≡◌}
use lib.ListN.{drop, get_or, replicate, take}
use Rattle.std.specs.Prelude.{Some}
use Rattle.text_digits.proofs.Forms.{dec_small, hex_small}
use Rattle.text_fields.specs.Fields.{in_form}
use Rattle.text_fields.specs.Got.{Small, most}
use Rattle.text_fields.specs.declared.Form.{Form}
use Rattle.text_fields.specs.declared.Form.TheVariants.{Decimal, Hex}

-- a field says no larger number than its form has
pub in_form_small : (form : Form) (f : List ℕ) (n : ℕ) → in_form form f ≡ Some n → n ≤ most form
in_form_small Decimal f n e = dec_small f n e
in_form_small Hex f n e = hex_small f n e

module _ (m : ℕ) where
  pub both_small : (l k : List ℕ) → Small m l → Small m k → Small m (l ++ k)
  both_small [] k h i = i
  both_small (n ∷ l) k h i = (h.0, both_small l k h.1 i)

  pub take_small : (n : ℕ) (l : List ℕ) → Small m l → Small m (take n l)
  take_small zero l h = tt
  take_small (suc n) [] h = tt
  take_small (suc n) (x ∷ l) h = (h.0, take_small n l h.1)

  pub drop_small : (n : ℕ) (l : List ℕ) → Small m l → Small m (drop n l)
  drop_small zero l h = h
  drop_small (suc n) [] h = tt
  drop_small (suc n) (x ∷ l) h = drop_small n l h.1

  pub zeros_small : (n : ℕ) → Small m (replicate n 0)
  zeros_small zero = tt
  zeros_small (suc n) = (omega arith, zeros_small n)

  pub small_at : (l : List ℕ) (i : ℕ) → Small m l → get_or l i 0 ≤ m
  small_at [] i h = omega arith
  small_at (x ∷ l) zero h = h.0
  small_at (x ∷ l) (suc i) h = small_at l i h.1
