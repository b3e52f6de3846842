-- The pattern of a number of 0 or above has no sign bit, or it is minus zero. Assumes nothing.
use Prim.Native.Nat.{ℕ, ◌*◌, ◌/◌, ◌^◌, ◌<◌}
use native.Mathlib.Nat.{mul-div_cancel, zero-mul}
use native.Mathlib.Omega.{arith}
use mathlib.Core.Bool.{true, false}
use mathlib.Core.Logic.{◌⊎◌, inl, inr}
use mathlib.Core.Path.{◌≡◌, sym, ap, ◌∙◌}
use borrow.Author.Tests.{eqb-true}
use lib.Dec.{T}
use lib.Ieee.{Float, nan, inf, fin, binary32, climb, down, fits, low, neg, size, span, to_bits, up}
use lib.Ieee.Bits.{to_bits-lt}
use lib.Ieee.Fits.{down_pos, neg-fits}
use lib.IntN.{ℤ}
use Rattle.base_words.proofs.Pick.{never}
use Rattle.elem_leaves.specs.Signs.{AtLeast0}
use Rattle.elem_leaves.proofs.Signs.{at_least_is, upward}
use Rattle.text_unwritten.specs.Pushing.{minus_zero}

-- without a sign
plain_bits : (m : ℕ) (e : ℤ) → T (fits binary32 (fin false m e)) → to_bits binary32 (fin false m e) < minus_zero
unfolding to_bits neg
plain_bits m e h = let low = to_bits-lt binary32 (fin true m e) (neg-fits binary32 (fin false m e) h) in omega arith

endless_bits : to_bits binary32 (inf false) < minus_zero
unfolding to_bits
endless_bits = omega arith

-- nothing, with a sign
nothing_divided : (u : ℕ) → 0 < u → 0 / u ≡ 0
nothing_divided u h = ap (λ (n : ℕ). n / u) (sym (zero-mul u)) ∙ mul-div_cancel 0 h

nothing_bits : (e : ℤ) → to_bits binary32 (fin true 0 e) ≡ minus_zero
unfolding to_bits size span climb
nothing_bits e = let none : 0 * up e * 2 ^ low binary32 / down e ≡ 0 = rw (zero-mul (up e), zero-mul (2 ^ low binary32)) (nothing_divided (down e) (down_pos e)) in rw none

pub at_least_bits : (x : Float) → AtLeast0 x → T (fits binary32 x) → (to_bits binary32 x < minus_zero) ⊎ (to_bits binary32 x ≡ minus_zero)
at_least_bits x h fit = by_sign x (sym (at_least_is x) ∙ h) fit
  where
    by_sign : (x : Float) → upward x ≡ true → T (fits binary32 x) → (to_bits binary32 x < minus_zero) ⊎ (to_bits binary32 x ≡ minus_zero)
    by_sign nan up fit = never (sym up)
    by_sign (inf true) up fit = never (sym up)
    by_sign (inf false) up fit = inl endless_bits
    by_sign (fin false m e) up fit = inl (plain_bits m e fit)
    by_sign (fin true m e) up fit = let none : m ≡ 0 = eqb-true m 0 up in rw none (inr (nothing_bits e))
