-- What a byte counts as a digit, and the byte of a digit: each is the other's inverse. Assumes nothing.
use Prim.Native.Nat.{ℕ, ◌≤◌, ◌<◌}
use native.Mathlib.Omega.{arith}
use mathlib.Core.Path.{◌≡◌}
use Rattle.std.proofs.lemmas.Grind.{common_steps}
use Rattle.text_digits.specs.Digits.{digit_of, glyph}

-- a digit's byte counts as the digit
pub digit_glyph : (d : ℕ) → d < 16 → digit_of (glyph d) ≡ d
unfolding digit_of glyph
digit_glyph d h = grind (arith, common_steps)

-- and a byte that counts as a digit is that digit's
pub glyph_digit : (b : ℕ) → digit_of b < 16 → glyph (digit_of b) ≡ b
unfolding digit_of glyph
glyph_digit b h = grind (arith, common_steps)

-- a byte counts 16 at most
pub digit_most : (b : ℕ) → digit_of b ≤ 16
unfolding digit_of
digit_most b = grind (arith, common_steps)

pub zero_digit : (b : ℕ) → digit_of b ≡ 0 → b ≡ 48
unfolding digit_of
zero_digit b e = grind (arith, common_steps)
