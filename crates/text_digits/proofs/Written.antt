-- The digits of a number, written one by one. Assumes nothing.
use Prim.Native.Nat.{ℕ, suc, ◌+◌, ◌-◌, ◌/◌, ◌%◌, ◌≤◌, ◌<◌}
use native.Mathlib.Omega.{arith}
use mathlib.Core.Path.{◌≡◌, refl}
use mathlib.Core.List.{List, [], ◌∷◌, ◌++◌}
use borrow.Author.Tests.{lt-ltb, le-ltb}
use native.Mathlib.Numerals.{add-one}
use lib.ListN.{get_or, length, take}
use lib.Seq.{take_all, take-suc}
use Rattle.base_words.proofs.Pick as pick
use Rattle.text_digits.specs.Digits.{dec_digits, dec_field, dec_bytes, glyph, hex_bytes, hex_digits, hex_field}
use Rattle.text_digits.specs.declared.Page.{Page}
use Rattle.text_digits.specs.Wrote.{Writes}
use Rattle.text_digits.proofs.Then.{idle, onward}

-- the definitions' cases
module _ (k n : ℕ) where
  pub dec_one : n < 10 → glyph n ∷ [] ≡ dec_digits (suc k) n
  unfolding dec_digits
  dec_one h = pick.take _ (lt-ltb _ _ h) refl

  pub dec_more : 10 ≤ n → dec_digits k (n / 10) ++ (glyph (n % 10) ∷ []) ≡ dec_digits (suc k) n
  unfolding dec_digits
  dec_more h = pick.pass _ (le-ltb _ _ h) refl

  pub hex_more : hex_digits k (n / 16) ++ (glyph (n % 16) ∷ []) ≡ hex_digits (suc k) n
  unfolding hex_digits
  hex_more = refl

some : (k : ℕ) → (k ≡ 0 → ⊥) → k ≡ suc (k - 1)
some k h = omega (arith, h)

-- as they are written
module _ (p : Page) (n k : ℕ) where
  pub no_dec : k ≡ 0 → p.at ≤ length p.out.now → Writes p (dec_digits k n) p
  unfolding dec_digits
  no_dec e h = rw e (idle p h)

module _ {p r : Page} (n k : ℕ) (more : k ≡ 0 → ⊥) where
  pub put_one : n < 10 → Writes p (glyph n ∷ []) r → Writes p (dec_digits k n) r
  put_one h w = rw (some k more, ← dec_one (k - 1) n h) w

  pub put_dec : {q : Page} → 10 ≤ n → Writes p (dec_digits (k - 1) (n / 10)) q → Writes q (glyph (n % 10) ∷ []) r → Writes p (dec_digits k n) r
  put_dec h v w = rw (some k more, ← dec_more (k - 1) n h) (onward v w)

-- a number by itself
pub dec_alone : {p q r : Page} (n : ℕ) → Writes p [] q → Writes q (dec_digits 20 n) r → Writes p (dec_bytes n) r
unfolding dec_bytes
dec_alone n v w = onward v w

-- fields
pub dec_after : {p q r : Page} (n : ℕ) → Writes p (9 ∷ []) q → Writes q (dec_bytes n) r → Writes p (dec_field n) r
unfolding dec_field
dec_after n tab w = onward tab w

-- four hex digits, and eight
pub four_is : {a b c d : ℕ} (n : ℕ) → a ≡ glyph (n / 16 / 16 / 16 % 16) → b ≡ glyph (n / 16 / 16 % 16) → c ≡ glyph (n / 16 % 16)
    → d ≡ glyph (n % 16) → a ∷ b ∷ c ∷ d ∷ [] ≡ hex_digits 4 n
unfolding hex_digits
four_is n a_is b_is c_is d_is = rw (a_is, b_is, c_is, d_is)

four_more : (n : ℕ) → hex_digits 4 (n / 65536) ++ hex_digits 4 n ≡ hex_digits 8 n
unfolding hex_digits
four_more n = let e : n / 65536 ≡ n / 16 / 16 / 16 / 16 = omega arith in rw e

pub hex_after : {p q r t : Page} {high low : List ℕ} (n : ℕ) → high ≡ hex_digits 4 (n / 65536) → low ≡ hex_digits 4 n → Writes p (9 ∷ []) q
    → Writes q high r → Writes r low t → Writes p (hex_field n) t
unfolding hex_field hex_bytes
hex_after n h l tab v w = onward tab (rw (← four_more n, ← h, ← l) (onward v w))

-- bytes, one after the other
module _ (w : List ℕ) {p : Page} where
  pub put_none : p.at ≤ length p.out.now → Writes p (take 0 w) p
  put_none h = idle p h

  pub put_more : {q r : Page} (i : ℕ) → i < length w → Writes p (take i w) q → Writes q (get_or w i 0 ∷ []) r → Writes p (take (i + 1) w) r
  put_more i h v x = rw (add-one, take-suc w i 0 h) (onward v x)

  pub put_all : {q : Page} (i : ℕ) → length w ≤ i → Writes p (take i w) q → Writes p w q
  put_all i h v = rw (take_all i w h) at v
