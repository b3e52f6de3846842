-- Document 01, "Numbers that refuse": the word "finite" of numbers 8 and 10. Assumes nothing.
use Rattle.std.specs.Prelude.{Bool, true, false, Float}
use Rattle.std.specs.Float.{nan, inf, fin}

-- a NaN is not finite, an infinity is not, a number is
unfoldable pub finite : Float → Bool
finite nan = false
finite (inf sign) = false
finite (fin sign m e) = true
