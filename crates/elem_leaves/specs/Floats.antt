-- Document 01, "Arithmetic": "every product and sum is rounded once, in the order written, left to right".
-- The f32 operators under names of their own, so that a definition reads like the document. Each is IEEE 754's
-- operation on binary32, which rounds once, to the nearest and at a tie to the even value. Assumes nothing.
use Rattle.std.specs.Prelude.{Bool, ◌&&◌, Float}
use Rattle.std.specs.Float.{binary32}
use Rattle.std.specs.Float.Ieee.{add, sub, mul, div, lt, le, of_bits}

infixl 7 ◌*f◌ ◌/f◌
infixl 6 ◌+f◌ ◌-f◌
infix 4 ◌<f◌ ◌>f◌ ◌≥f◌
abbrev pub ◌+f◌ : Float → Float → Float
x +f y = add binary32 x y

abbrev pub ◌-f◌ : Float → Float → Float
x -f y = sub binary32 x y

abbrev pub ◌*f◌ : Float → Float → Float
x *f y = mul binary32 x y

abbrev pub ◌/f◌ : Float → Float → Float
x /f y = div binary32 x y

-- a comparison with a NaN fails
abbrev pub ◌<f◌ : Float → Float → Bool
x <f y = lt x y

abbrev pub ◌>f◌ : Float → Float → Bool
x >f y = lt y x

abbrev pub ◌≥f◌ : Float → Float → Bool
x ≥f y = le y x

-- plus zero, one and a half, by their bits
abbrev pub zero : Float
zero = of_bits binary32 0

abbrev pub one : Float
one = of_bits binary32 0x3f80_0000

abbrev pub half : Float
half = of_bits binary32 0x3f00_0000

-- "below 0" and "in (0, 1]", of number 9 and request E10. "Minus zero passes", since these are tests of numbers
abbrev pub below0 : Float → Bool
below0 x = x <f zero

abbrev pub in_unit : Float → Bool
in_unit x = (x >f zero) && le x one
