-- What is read and what is written are the same forms. Proved in proofs/RoundTrip.antt. Assumes nothing.
use Rattle.std.specs.Prelude.{ℕ, ◌≤◌, List, ◌≡◌, Option, Some}
use Rattle.text_digits.specs.Digits.{dec_bytes, dec_of, hex_bytes, hex_of}

pub record RoundTrip (reads : List ℕ → Option ℕ) (writes : ℕ → List ℕ) (limit : ℕ) : Type 0 where
  -- reading what was written gives the number back
  pub back : (n : ℕ) → n ≤ limit → reads (writes n) ≡ Some n
  -- and nothing else is read as that number: the reader accepts exactly the written forms
  pub only : (s : List ℕ) (n : ℕ) → reads s ≡ Some n → (n ≤ limit) × (s ≡ writes n)

-- eight hex digits are all patterns of 32 bits
abbrev pub HexRoundTrip : Type 0
HexRoundTrip = RoundTrip hex_of hex_bytes 0xffff_ffff

abbrev pub DecRoundTrip : Type 0
DecRoundTrip = RoundTrip dec_of dec_bytes 65535
