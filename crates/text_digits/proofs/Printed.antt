-- A float as it was read is printed with the bits that were read. Assumes nothing.
use Prim.Native.Nat.{ℕ, ◌≤◌}
use native.Mathlib.Omega.{arith}
use mathlib.Core.Path.{◌≡◌, refl, sym}
use mathlib.Core.Bool.{Bool, true, false}
use lib.Ieee.{binary32, is_nan}
use lib.Ieee.Bits.{to_bits-of_bits}
use Rattle.base_words.proofs.Pick.{take, pass}
use Rattle.text_digits.specs.Bits.{PrintedAsRead, printed, value_of}

by_case : (bits : ℕ) → bits ≤ 0xffff_ffff → (t : Bool) → is_nan (value_of bits) ≡ t → printed (value_of bits) bits ≡ bits
unfolding printed
by_case bits h true e = sym (take _ e refl)
by_case bits h false e = sym (pass _ e (sym (to_bits-of_bits binary32 bits (omega arith) (rw e tt))))

pub printed_as_read : PrintedAsRead
printed_as_read bits h = by_case bits h (is_nan (value_of bits)) refl
