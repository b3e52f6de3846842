-- Document 01, "Text form": a line as it is written: "One record a line, ended by byte 10, fields parted by one tab"; and
-- the lines of one number or two: E, R and X. Assumes nothing.
use Rattle.std.specs.Prelude.{ℕ, zero, suc, List, [], ◌∷◌, ◌++◌}
use Rattle.text_digits.specs.Digits.{dec_field, hex_field}

-- the bytes of each, one after the other
unfoldable pub joined : (ℕ → List ℕ) → List ℕ → List ℕ
joined field [] = []
joined field (n ∷ ns) = field n ++ joined field ns

-- a letter, decimal numbers, floats by their bits
unfoldable pub line : ℕ → List ℕ → List ℕ → List ℕ
line letter numbers bits = (letter ∷ []) ++ joined dec_field numbers ++ joined hex_field bits ++ (10 ∷ [])

-- f of 0, 1, .. below n, one after the other
unfoldable pub each : (ℕ → List ℕ) → ℕ → List ℕ
each f zero = []
each f (suc n) = each f n ++ f n

-- E: steps done, and how many of them were refused
abbrev pub e_line : ℕ → ℕ → List ℕ
e_line done refused = line 69 (done ∷ refused ∷ []) []

-- "A whole-call refusal writes only R and its number"
abbrev pub r_line : ℕ → List ℕ
r_line refusal = line 82 (refusal ∷ []) []

-- "Bad text writes only X, line number from 1, reason"
abbrev pub x_line : ℕ → ℕ → List ℕ
x_line number reason = line 88 (number ∷ reason ∷ []) []
