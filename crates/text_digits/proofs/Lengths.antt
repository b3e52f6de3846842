-- How long the fields are, and that what fits is written whole. Assumes nothing.
use Prim.Native.Nat.{ℕ, zero, suc, ◌+◌, ◌/◌, ◌^◌, ◌≤◌, ◌<◌}
use native.Mathlib.Decide.{dec_lt}
use native.Mathlib.Nat.{div-lt_iff_lt-mul, pow-suc}
use native.Mathlib.Omega.{arith}
use mathlib.Core.Path.{◌≡◌, refl}
use mathlib.Core.List.{List}
use lib.ListN.{drop, length, length-append, take}
use lib.Seq.{sets-eq, take_at}
use Rattle.base_places.specs.Lengths.{float_bytes, number_bytes}
use Rattle.text_digits.specs.FiveDigits.{FiveDigits}
use Rattle.text_digits.specs.Digits.{dec_bytes, dec_digits, dec_field, hex_bytes, hex_digits, hex_field}
use Rattle.text_digits.specs.Wrote.{Wrote}
use Rattle.text_digits.proofs.Written.{dec_one, dec_more}

-- a number below a power of ten has no more digits than the power says
few_digits : (j k n : ℕ) → n < 10 ^ suc k → length (dec_digits j n) ≤ suc k
unfolding dec_digits
few_digits zero k n h = omega arith
few_digits (suc j) k n h = side k h (dec_lt n 10) (λ i p. few_digits j i (n / 10) p)
  where
    side : (k : ℕ) → n < 10 ^ suc k → Dec (n < 10) → ((i : ℕ) → n / 10 < 10 ^ suc i → length (dec_digits j (n / 10)) ≤ suc i)
        → length (dec_digits (suc j) n) ≤ suc k
    side k h (yes p) before = rw (← dec_one j n p) (omega arith)
    side zero h (no p) before = absurd (p h)
    side (suc i) h (no p) before =
        let less : n / 10 < 10 ^ suc i = (div-lt_iff_lt-mul {k = 10} (omega arith)).1 (rw pow-suc at h) in
        rw (← dec_more j n (omega arith), length-append) (omega (arith, before i less))

pub five_digits : FiveDigits
unfolding dec_bytes
five_digits n h = few_digits 20 4 n (omega arith)

pub dec_digits_lem : (k n : ℕ) → length (dec_digits k n) ≤ k
unfolding dec_digits
dec_digits_lem zero n = omega arith
dec_digits_lem (suc k) n = side (dec_lt n 10) (dec_digits_lem k (n / 10))
  where
    side : Dec (n < 10) → length (dec_digits k (n / 10)) ≤ k → length (dec_digits (suc k) n) ≤ suc k
    side (yes h) l = rw (← dec_one k n h) (omega arith)
    side (no h) l = rw (← dec_more k n (omega arith), length-append) (omega arith)

pub hex_digits_lem : (k n : ℕ) → length (hex_digits k n) ≡ k
unfolding hex_digits
hex_digits_lem zero n = refl
hex_digits_lem (suc k) n = rw length-append (omega (arith, hex_digits_lem k (n / 16)))

pub dec_field_lem : (n : ℕ) → length (dec_field n) ≤ 21
unfolding dec_field dec_bytes
dec_field_lem n = omega (arith, dec_digits_lem 20 n)

pub short_field : (n : ℕ) → n < 65536 → length (dec_field n) ≤ number_bytes
unfolding dec_field
short_field n h = omega (arith, five_digits n h)

pub hex_field_lem : (n : ℕ) → length (hex_field n) ≡ float_bytes
unfolding hex_field hex_bytes
hex_field_lem n = omega (arith, hex_digits_lem 8 n)

pub exact : {o w o' : List ℕ} {r : ℕ} → Wrote o 0 w o' r → length w ≤ length o → (r ≡ length w) × (take r o' ≡ w)
exact {o} {w} {o'} {r} v h =
    let e : r ≡ length w = omega (arith, v.place) in
    (e, rw (e, v.bytes, sets-eq w o 0 (omega arith)) (take_at w (drop (0 + length w) o) (length w) refl))
