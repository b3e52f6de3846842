-- Patterns and floats. The logic has one NaN, a machine has many: the pattern that was read is kept beside the float, and printed where
-- the float is a NaN. Assumes nothing.
use Rattle.std.specs.Prelude.{ℕ, ◌≤◌, ◌≡◌, Float}
use Rattle.std.specs.Float.{binary32}
use Rattle.std.specs.Float.Ieee.{is_nan, of_bits, to_bits}
use Rattle.base_words.specs.Choice.{if◌then◌otherwise◌}

-- the float that a pattern stands for
abbrev pub value_of : ℕ → Float
value_of bits = of_bits binary32 bits

-- the pattern that is printed for x, beside which `kept` was kept
unfoldable pub printed : Float → ℕ → ℕ
printed x kept = if is_nan x then kept otherwise to_bits binary32 x

-- a float as it was read is printed with the bits that were read, a NaN's too. Proved in proofs/Printed.antt
abbrev pub PrintedAsRead : Type 0
PrintedAsRead = (bits : ℕ) → bits ≤ 0xffff_ffff → printed (value_of bits) bits ≡ bits
