-- How many digits a number of the text form takes: "decimal, 0 to 65535" is at most five. Proved in proofs/Lengths.antt. Assumes nothing.
use Rattle.std.specs.Prelude.{ℕ, ◌≤◌, ◌<◌, length}
use Rattle.text_digits.specs.Digits.{dec_bytes}

abbrev pub FiveDigits : Type 0
FiveDigits = (n : ℕ) → n < 65536 → length (dec_bytes n) ≤ 5
