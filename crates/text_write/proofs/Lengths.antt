-- How long a line is at most, and lines one after the other. Assumes nothing.
use Prim.Native.Nat.{ℕ, zero, suc, ◌+◌, ◌*◌, ◌≤◌, ◌<◌}
use native.Mathlib.Nat.{suc-mul}
use native.Mathlib.Omega.{arith}
use mathlib.Core.List.{List, [], ◌∷◌}
use lib.ListN.{get_or, length, length-append}
use Rattle.base_places.specs.Lengths.{float_bytes, line_bytes}
use Rattle.text_digits.specs.Digits.{dec_field, hex_field}
use Rattle.text_digits.proofs.Lengths.{dec_field_lem, hex_field_lem, short_field}
use Rattle.text_write.specs.Lines.{each, e_line, joined, line, r_line, x_line}

-- fields of at most m bytes each
joined_length : (field : ℕ → List ℕ) (m : ℕ) (l : List ℕ) → ((i : ℕ) → length (field (get_or l i 0)) ≤ m)
    → length (joined field l) ≤ length l * m
unfolding joined
joined_length field m [] h = omega arith
joined_length field m (n ∷ l) h = rw (length-append, suc-mul) (omega (arith, h 0, joined_length field m l (λ i. h (suc i))))

-- letter and byte 10, so many bytes at most for a number
line_length : (m letter : ℕ) (numbers bits : List ℕ) → ((i : ℕ) → length (dec_field (get_or numbers i 0)) ≤ m)
    → length (line letter numbers bits) ≤ 2 + length numbers * m + length bits * float_bytes
unfolding line
line_length m letter numbers bits h =
    simp length-append
    (omega (arith, joined_length dec_field m numbers h, joined_length hex_field 9 bits (λ i. omega (arith, hex_field_lem (get_or bits i 0)))))

-- every number of a list is one of the text form
abbrev pub Small : List ℕ → Type 0
Small numbers = (i : ℕ) → get_or numbers i 0 < 65536

pub two_small : (a b : ℕ) → a < 65536 → b < 65536 → Small (a ∷ b ∷ [])
two_small a b p q zero = p
two_small a b p q (suc zero) = q
two_small a b p q (suc (suc i)) = omega arith

pub short_line : (letter : ℕ) (numbers bits : List ℕ) → Small numbers
    → length (line letter numbers bits) ≤ line_bytes (length numbers) (length bits)
short_line letter numbers bits h = line_length 6 letter numbers bits (λ i. short_field (get_or numbers i 0) (h i))

pub each_length : (f : ℕ → List ℕ) (m n : ℕ) → ((i : ℕ) → i < n → length (f i) ≤ m) → length (each f n) ≤ n * m
unfolding each
each_length f m zero h = omega arith
each_length f m (suc n) h = rw (length-append, suc-mul) (omega (arith, each_length f m n (λ i k. h i (omega arith)), h n (omega arith)))

pub e_line_length : (done refused : ℕ) → done < 65536 → refused < 65536 → length (e_line done refused) ≤ line_bytes 2 0
e_line_length done refused p q = short_line 69 _ [] (two_small done refused p q)

-- any numbers, which have twenty digits at most
pub r_line_length : (refusal : ℕ) → length (r_line refusal) ≤ 2 + 21
r_line_length refusal = line_length 21 82 (refusal ∷ []) [] (λ i. dec_field_lem _)

pub x_line_length : (number reason : ℕ) → length (x_line number reason) ≤ 2 + 2 * 21
x_line_length number reason = line_length 21 88 (number ∷ reason ∷ []) [] (λ i. dec_field_lem _)
