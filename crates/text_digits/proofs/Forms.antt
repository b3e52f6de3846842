-- What can be said of a text that is read as a number: how long it is, and how large the number. Assumes nothing.
use Prim.Native.Nat.{ℕ, ◌+◌, ◌*◌, ◌^◌, ◌≤◌}
use native.Mathlib.Decide.{dec_le}
use native.Mathlib.Nat.{le_of_eq, le_trans, le-add_right, mul_assoc, mul-le-mul_right, mul-one, pow-le-pow_right, pow-succ', pow-zero}
use native.Mathlib.Omega.{arith}
use mathlib.Core.Path.{◌≡◌, ◌∙◌, ap}
use mathlib.Core.List.{List, [], ◌∷◌}
use lib.ListN.{length}
use Rattle.std.specs.Prelude.{Some}
use Rattle.text_digits.specs.Digits.{dec_of, digit_of, hex_of, number_from}
use Rattle.text_digits.proofs.Came.{came_dec, came_digit, came_end, came_hex, lead_counts}

-- for any base: the number stays within the limit, and each digit multiplies what was read before
module _ (base limit : ℕ) where
  within : (m n : ℕ) (s : List ℕ) → m ≤ limit → number_from base limit m s ≡ Some n → n ≤ limit
  within m n [] h e = omega (arith, came_end base limit m n e)
  within m n (b ∷ s) h e = let d = came_digit base limit m b s n e in within (m * base + digit_of b) n s d.inside d.rest

  grown : (m n : ℕ) (s : List ℕ) → number_from base limit m s ≡ Some n → m * base ^ length s ≤ n
  grown m n [] e = le_of_eq (ap (λ (p : ℕ). m * p) (pow-zero base) ∙ mul-one m ∙ came_end base limit m n e)
  grown m n (b ∷ s) e =
      let d = came_digit base limit m b s n e in
      let more : m * base ≤ m * base + digit_of b = le-add_right (m * base) (digit_of b) in
      rw (pow-succ', ← mul_assoc) (le_trans (mul-le-mul_right (base ^ length s) more) (grown (m * base + digit_of b) n s d.rest))

pub hex_small : (s : List ℕ) (n : ℕ) → hex_of s ≡ Some n → n ≤ 0xffff_ffff
hex_small s n e = within 16 0xffff_ffff 0 n s (omega arith) (came_hex s n e).1

pub dec_small : (s : List ℕ) (n : ℕ) → dec_of s ≡ Some n → n ≤ 65535
dec_small s n e = within 10 65535 0 n s (omega arith) (came_dec s n e).number

pub dec_short : (s : List ℕ) (n : ℕ) → dec_of s ≡ Some n → length s ≤ 5
dec_short [] n e = omega arith
dec_short (b ∷ s) n e = side (dec_le 5 (length s))
  where
    side : Dec (5 ≤ length s) → length (b ∷ s) ≤ 5
    side (no h) = omega arith
    side (yes h) =
        let v = came_dec (b ∷ s) n e in
        let counts : 1 ≤ 0 * 10 + digit_of b = omega (arith, lead_counts b s n v (omega arith)) in
        let large = grown 10 65535 (0 * 10 + digit_of b) n s (came_digit 10 65535 0 b s n v.number).rest in
        omega (arith, dec_small (b ∷ s) n e, large, mul-le-mul_right (10 ^ length s) counts, pow-le-pow_right {n = 10} (omega arith) h)
