-- Document 01, "Text form": "fields parted by one tab", and what fields say as numbers. Assumes nothing.
use Rattle.std.specs.Prelude.{ℕ, zero, suc, List, [], ◌∷◌, ◌++◌, ◌≡◌, eqb, leb, drop, length, Option, Some, None, option_and_then}
use Rattle.base_words.specs.Choice.{if◌then◌otherwise◌}
use Rattle.text_digits.specs.Digits.{dec_of, hex_of}
use Rattle.text_fields.specs.declared.Form.{Form}
use Rattle.text_fields.specs.declared.Form.TheVariants.{Decimal, Hex}

-- a byte before the first of the fields
unfoldable pub onto : ℕ → List (List ℕ) → List (List ℕ)
onto b [] = (b ∷ []) ∷ []
onto b (f ∷ fs) = (b ∷ f) ∷ fs

-- the fields of a line: a tab, byte 9, parts two
unfoldable pub fields : List ℕ → List (List ℕ)
fields [] = [] ∷ []
fields (b ∷ s) = if eqb b 9 then [] ∷ fields s otherwise onto b (fields s)

-- how many bytes stand before the first that is e; all of them, where none is
unfoldable pub until : ℕ → List ℕ → ℕ
until e [] = 0
until e (b ∷ s) = if eqb b e then 0 otherwise suc (until e s)

-- no byte of a run is e
abbrev pub Free : ℕ → List ℕ → Type 0
Free e run = until e run ≡ length run

-- the fields from byte `at` on; past the end there are none left
unfoldable pub fields_from : List ℕ → ℕ → List (List ℕ)
fields_from s at = if leb at (length s) then fields (drop at s) otherwise []

-- "floats are the bits as eight lower-case hex digits; other numbers are decimal"
abbrev pub in_form : Form → List ℕ → Option ℕ
in_form Decimal f = dec_of f
in_form Hex f = hex_of f

-- numbers that fields say, and the fields after them
pub data Taken : Type 0 where
  These : List ℕ → List (List ℕ) → Taken

-- k fields in one form, after the numbers that were got before them; none, where one is not in its form or missing
unfoldable pub takes : Form → List ℕ → ℕ → List (List ℕ) → Option Taken
takes form got zero fs = Some (These got fs)
takes form got (suc k) [] = None
takes form got (suc k) (f ∷ fs) = option_and_then (λ n. takes form (got ++ (n ∷ [])) k fs) (in_form form f)

-- what a whole line says after its letter: decimal numbers, and floats' bits
pub data Values : Type 0 where
  Says : List ℕ → List ℕ → Values

-- no field is left over
unfoldable pub ended : List ℕ → Option Taken → Option Values
ended numbers (Some (These bits [])) = Some (Says numbers bits)
ended numbers (Some (These bits (f ∷ fs))) = None
ended numbers None = None

unfoldable pub then_bits : ℕ → Option Taken → Option Values
then_bits k (Some (These numbers fs)) = ended numbers (takes Hex [] k fs)
then_bits k None = None

-- d decimal numbers, then k floats; none, where the fields are not of that number or form: "field count or field form"
unfoldable pub values : ℕ → ℕ → List (List ℕ) → Option Values
values d k fs = then_bits k (takes Decimal [] d fs)
