-- Document 01, "Text form": "floats are the bits as eight lower-case hex digits; other numbers are decimal, 0 to 65535, no leading zero",
-- as they are read and as they are written. A byte is a number, a text a list of bytes. Assumes nothing.
use Rattle.std.specs.Prelude.{ℕ, zero, suc, ◌+◌, ◌-◌, ◌*◌, ◌/◌, ◌%◌, ◌&&◌, List, [], ◌∷◌, ◌++◌, eqb, leb, ltb, get_or, length, Option, Some, None}
use Rattle.base_words.specs.Choice.{if◌then◌otherwise◌}

-- '0' to '9' are 0 to 9, 'a' to 'f' are 10 to 15; any other byte is no digit, which 16 says
unfoldable pub digit_of : ℕ → ℕ
digit_of b = if leb 48 b && leb b 57 then b - 48 otherwise if leb 97 b && leb b 102 then b - 87 otherwise 16

-- the bytes as digits of a base, the highest first, after the number n that was read before them; no number once a byte is no digit of
-- the base, or the number is above the limit
unfoldable pub number_from : ℕ → ℕ → ℕ → List ℕ → Option ℕ
number_from base limit n [] = Some n
number_from base limit n (b ∷ s) =
    if ltb (digit_of b) base && leb (n * base + digit_of b) limit then number_from base limit (n * base + digit_of b) s otherwise None

-- "eight lower-case hex digits"
unfoldable pub hex_of : List ℕ → Option ℕ
hex_of s = if eqb (length s) 8 then number_from 16 0xffff_ffff 0 s otherwise None

-- "decimal, 0 to 65535, no leading zero": at least one digit, and a first 0 stands alone
unfoldable pub dec_of : List ℕ → Option ℕ
dec_of s =
    if eqb (length s) 0 then None
    otherwise if eqb (get_or s 0 0) 48 && ltb 1 (length s) then None
    otherwise number_from 10 65535 0 s

-- the byte of a digit
unfoldable pub glyph : ℕ → ℕ
glyph d = if ltb d 10 then 48 + d otherwise 87 + d

-- k hex digits
unfoldable pub hex_digits : ℕ → ℕ → List ℕ
hex_digits zero n = []
hex_digits (suc k) n = hex_digits k (n / 16) ++ (glyph (n % 16) ∷ [])

unfoldable pub hex_bytes : ℕ → List ℕ
hex_bytes n = hex_digits 8 n

-- a decimal number of at most k digits, with no leading zero
unfoldable pub dec_digits : ℕ → ℕ → List ℕ
dec_digits zero n = []
dec_digits (suc k) n = if ltb n 10 then glyph n ∷ [] otherwise dec_digits k (n / 10) ++ (glyph (n % 10) ∷ [])

-- twenty are enough for any number that a program holds
unfoldable pub dec_bytes : ℕ → List ℕ
dec_bytes n = dec_digits 20 n

-- "fields parted by one tab": a field after its tab
unfoldable pub dec_field : ℕ → List ℕ
dec_field n = 9 ∷ dec_bytes n

unfoldable pub hex_field : ℕ → List ℕ
hex_field n = 9 ∷ hex_bytes n
