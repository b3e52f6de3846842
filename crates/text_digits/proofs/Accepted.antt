-- Where a whole text is read as a number, and where it is none. Assumes nothing.
use Prim.Native.Nat.{ℕ}
use mathlib.Core.Path.{◌≡◌, refl}
use mathlib.Core.Bool.{false, ◌&&◌}
use mathlib.Core.List.{List}
use borrow.Author.Tests.{eq-eqb, ne_eqb}
use lib.Dec.{eqb, ltb}
use lib.ListN.{get_or, length}
use Rattle.std.specs.Prelude.{Option, None}
use Rattle.base_words.proofs.Pick.{take, pass}
use Rattle.text_digits.specs.Digits.{dec_of, hex_of, number_from}

module _ (s : List ℕ) where
  pub hex_number : {r : Option ℕ} → length s ≡ 8 → r ≡ number_from 16 0xffff_ffff 0 s → r ≡ hex_of s
  unfolding hex_of
  hex_number h e = take _ (eq-eqb _ _ h) e

  pub hex_other : (length s ≡ 8 → ⊥) → None ≡ hex_of s
  unfolding hex_of
  hex_other h = pass _ (ne_eqb _ _ h) refl

  -- some bytes, and no leading zero
  pub dec_number : {r : Option ℕ} → (length s ≡ 0 → ⊥) → (eqb (get_or s 0 0) 48 && ltb 1 (length s)) ≡ false
      → r ≡ number_from 10 65535 0 s → r ≡ dec_of s
  unfolding dec_of
  dec_number h k e = pass _ (ne_eqb _ _ h) (pass _ k e)
