-- Eight hex digits, all looked at before any is judged. Assumes nothing.
use Prim.Native.Nat.{ℕ, suc, ◌+◌, ◌*◌, ◌^◌, ◌≤◌, ◌<◌}
use native.Mathlib.Nat.{pow-le-pow_right, pow-suc}
use native.Mathlib.Numerals.{add-one}
use native.Mathlib.Omega.{arith}
use mathlib.Core.Path.{◌≡◌, refl}
use mathlib.Core.Bool.{Bool, true, false, ◌&&◌}
use mathlib.Core.List.{List}
use borrow.Author.Tests.{ltb-false, ltb-true}
use lib.Dec.{ltb}
use lib.ListN.{drop, get_or, length}
use Rattle.std.specs.Prelude.{Option, None, Some}
use Rattle.base_words.specs.Choice.{if◌then◌otherwise◌}
use Rattle.base_words.proofs.Said.{all_l, all_r}
use Rattle.text_digits.specs.Digits.{digit_of, hex_of, number_from}
use Rattle.text_digits.proofs.Accepted.{hex_number}
use Rattle.text_digits.proofs.Counts.{digit_most}
use Rattle.text_digits.proofs.Turn.{no_digit, over, turn}

-- the first i bytes were looked at: they come to n if `all` of them are digits, and to no number if not
pub record Looked (s : List ℕ) (i n : ℕ) (all : Bool) : Type 0 where
  pub same : (if all then number_from 16 0xffff_ffff n (drop i s) otherwise None) ≡ number_from 16 0xffff_ffff 0 s
  pub few : all ≡ true → n < 16 ^ i
  pub room : 15 * n + 16 ≤ 16 ^ suc i

-- one byte more
module _ (s : List ℕ) (i n d : ℕ) (h : i < length s) (e : d ≡ digit_of (get_or s i 0)) where
  same_by : {r : Option ℕ} (all t : Bool) → ltb d 16 ≡ t → (all ≡ true → t ≡ true → n * 16 + d ≤ 0xffff_ffff)
      → (if all then number_from 16 0xffff_ffff n (drop i s) otherwise None) ≡ r
      → (if all && t then number_from 16 0xffff_ffff (n * 16 + d) (drop (i + 1) s) otherwise None) ≡ r
  same_by false t q k v = v
  same_by true true q k v = (turn (record { same = v }) h e (ltb-true _ _ q) (k refl refl)).same
  same_by true false q k v = no_digit (record { same = v }) h e (ltb-false _ _ q)

  pub look : length s ≡ 8 → {all : Bool} → Looked s i n all → Looked s (i + 1) (n * 16 + d) (all && ltb d 16)
  look long {all} v =
      let most = digit_most (get_or s i 0) in
      let places : i ≤ 7 = omega arith in
      let power : 16 ^ i ≤ 16 ^ 7 = pow-le-pow_right {n = 16} (omega arith) places in
      let on : 16 ^ suc (i + 1) ≡ 16 ^ suc i * 16 = rw add-one (pow-suc 16 (suc i)) in
      let on' : 16 ^ (i + 1) ≡ 16 ^ i * 16 = rw add-one (pow-suc 16 i) in
      record {
        same = same_by all (ltb d 16) refl (λ p t. omega (arith, v.few p, ltb-true d 16 t, power)) v.same;
        few = λ t. omega (arith, v.few (all_l all (ltb d 16) t), ltb-true d 16 (all_r all (ltb d 16) t), on');
        room = omega (arith, v.room, on, most, e);
      }

  pub in_word : length s ≡ 8 → {all : Bool} → Looked s i n all → n * 16 + d < 2 ^ 64
  in_word long v =
      let places : suc (i + 1) ≤ 9 = omega arith in
      let power : 16 ^ suc (i + 1) ≤ 16 ^ 9 = pow-le-pow_right {n = 16} (omega arith) places in
      omega (arith, (look long v).room, power)

-- all eight, or one that is no digit
module _ (s : List ℕ) (long : length s ≡ 8) {i n : ℕ} {all : Bool} (v : Looked s i n all) (h : length s ≤ i) where
  pub eight_number : all ≡ true → Some n ≡ hex_of s
  eight_number t = hex_number s long (over (record { same = rw t at v.same }) h)

  pub eight_none : all ≡ false → None ≡ hex_of s
  eight_none t = hex_number s long (rw t at v.same)
