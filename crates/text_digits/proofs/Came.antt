-- The other way: what must have been where a text was read as a number. Assumes nothing.
use Prim.Native.Nat.{ℕ, ◌+◌, ◌*◌, ◌≤◌, ◌<◌}
use native.Mathlib.Decide.{dec_le}
use native.Mathlib.Omega.{arith}
use mathlib.Core.Path.{◌≡◌, refl, sym, ◌∙◌}
use mathlib.Core.Bool.{Bool, true, false, ◌&&◌}
use mathlib.Core.List.{List, [], ◌∷◌}
use borrow.Author.Tests.{eq-eqb, eqb-true, eqb-false, leb-true, lt-ltb, ltb-true}
use lib.Dec.{eqb, leb, ltb}
use lib.ListN.{get_or, length}
use Rattle.std.specs.Prelude.{Option, Some, None}
use Rattle.base_words.specs.Choice.{if◌then◌otherwise◌}
use Rattle.base_words.proofs.Pick.{never}
use Rattle.base_words.proofs.Said.{all_l, all_r}
use Rattle.text_digits.specs.Digits.{dec_of, digit_of, hex_of, number_from}
use Rattle.text_digits.proofs.Counts.{zero_digit}
use Rattle.text_digits.proofs.Tests.{both}

none_is : {A : Type 0} {n : ℕ} → None ≡ Some n → A
none_is e = absurd (let z : ◌≡◌ {A = ℕ} 0 1 = cc in omega arith)

-- a choice between a number and none
module _ {x : Option ℕ} {n : ℕ} where
  first : (t : Bool) → (if t then x otherwise None) ≡ Some n → (t ≡ true) × (x ≡ Some n)
  first true e = (refl, e)
  first false e = none_is e

  second : (t : Bool) → (if t then None otherwise x) ≡ Some n → (t ≡ false) × (x ≡ Some n)
  second true e = none_is e
  second false e = (refl, e)

-- one digit, and the rest after it
pub record Digit (base limit m b : ℕ) (s : List ℕ) (n : ℕ) : Type 0 where
  pub digit : digit_of b < base
  pub inside : m * base + digit_of b ≤ limit
  pub rest : number_from base limit (m * base + digit_of b) s ≡ Some n

pub came_digit : (base limit m b : ℕ) (s : List ℕ) (n : ℕ) → number_from base limit m (b ∷ s) ≡ Some n → Digit base limit m b s n
unfolding number_from
came_digit base limit m b s n e =
    let both = first (ltb (digit_of b) base && leb (m * base + digit_of b) limit) e in
    record {
      digit = ltb-true _ _ (all_l (ltb (digit_of b) base) (leb (m * base + digit_of b) limit) both.0);
      inside = leb-true _ _ (all_r (ltb (digit_of b) base) (leb (m * base + digit_of b) limit) both.0);
      rest = both.1;
    }

pub came_end : (base limit m n : ℕ) → number_from base limit m [] ≡ Some n → m ≡ n
unfolding number_from
came_end base limit m n e = cc

-- eight digits
pub came_hex : (s : List ℕ) (n : ℕ) → hex_of s ≡ Some n → (length s ≡ 8) × (number_from 16 0xffff_ffff 0 s ≡ Some n)
unfolding hex_of
came_hex s n e = let one = first (eqb (length s) 8) e in (eqb-true _ _ one.0, one.1)

-- some digits, and no leading zero
pub record Decimal (s : List ℕ) (n : ℕ) : Type 0 where
  pub some : length s ≡ 0 → ⊥
  pub lead : (eqb (get_or s 0 0) 48 && ltb 1 (length s)) ≡ false
  pub number : number_from 10 65535 0 s ≡ Some n

pub came_dec : (s : List ℕ) (n : ℕ) → dec_of s ≡ Some n → Decimal s n
unfolding dec_of
came_dec s n e =
    let one = second (eqb (length s) 0) e in
    let two = second (eqb (get_or s 0 0) 48 && ltb 1 (length s)) one.1 in
    record { some = eqb-false _ _ one.0; lead = two.0; number = two.1 }

-- the first of several digits counts
pub lead_counts : (b : ℕ) (s : List ℕ) (n : ℕ) → Decimal (b ∷ s) n → 1 ≤ length s → 1 ≤ digit_of b
lead_counts b s n v h = side (dec_le 1 (digit_of b))
  where
    side : Dec (1 ≤ digit_of b) → 1 ≤ digit_of b
    side (yes k) = k
    side (no k) =
        let zeros = both (eq-eqb b 48 (zero_digit b (omega arith))) (lt-ltb 1 (length (b ∷ s)) (omega arith)) in
        never (sym zeros ∙ v.lead)
