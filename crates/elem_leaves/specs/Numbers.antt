-- Whole numbers as floats, for worked examples. Assumes nothing.
use Rattle.std.specs.Prelude.{ℕ, pos, Float}
use Rattle.std.specs.Float.{binary32}
use Rattle.std.specs.Float.Ieee.{neg, of_int}

-- the f32 that is the whole number n, and its negative
abbrev pub num : ℕ → Float
num n = of_int binary32 (pos n)

abbrev pub minus : ℕ → Float
minus n = neg (num n)
