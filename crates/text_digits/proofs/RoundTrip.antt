-- What is read and what is written are the same forms, hex and decimal by one argument over the base. Assumes nothing.
use Prim.Native.Nat.{ℕ, zero, suc, ◌+◌, ◌-◌, ◌*◌, ◌/◌, ◌%◌, ◌^◌, ◌≤◌, ◌<◌}
use native.Mathlib.Decide.{dec_le, dec_lt}
use native.Mathlib.Nat.{add-zero, div-add-mod', div-le_self, div-lt_iff_lt-mul, mod-lt, mul-le-mul, pow-suc, pow-zero}
use native.Mathlib.Nat.{le_refl, le_trans, lt_of_le_of_lt}
use native.Mathlib.Omega.{arith}
use mathlib.Core.Path.{◌≡◌, refl, sym, ◌∙◌, ap}
use mathlib.Core.List.{List, [], ◌∷◌, ◌++◌, append-nil}
use borrow.Author.Tests.{ne_eqb}
use lib.Arith.{digits_div, digits_mod}
use lib.Dec.{lit<, ltb}
use lib.ListN.{length}
use lib.Seq.{append_snoc}
use Rattle.std.specs.Prelude.{Option, Some}
use Rattle.text_digits.specs.Digits.{dec_bytes, dec_digits, dec_of, digit_of, glyph, hex_bytes, hex_digits, hex_of, number_from}
use Rattle.text_digits.specs.RoundTrip.{DecRoundTrip, HexRoundTrip}
use Rattle.text_digits.proofs.Accepted.{dec_number, hex_number}
use Rattle.text_digits.proofs.Came.{came_dec, came_digit, came_end, came_hex, lead_counts}
use Rattle.text_digits.proofs.Counts.{digit_glyph, glyph_digit}
use Rattle.text_digits.proofs.Forms.{dec_short, dec_small, hex_small}
use Rattle.text_digits.proofs.Lengths.{hex_digits_lem}
use Rattle.text_digits.proofs.Tests.{not_first}
use Rattle.text_digits.proofs.Turn.{ended, in_range}
use Rattle.text_digits.proofs.Written.{dec_more, dec_one, hex_more}

-- how a number is written in a base: its last digit after those of n / base, where that is `start` or more, and a single digit where not
record Writes (base start : ℕ) (digits : ℕ → ℕ → List ℕ) : Type 0 where
  none : (n : ℕ) → [] ≡ digits 0 n
  more : (k n : ℕ) → start ≤ n / base → digits k (n / base) ++ (glyph (n % base) ∷ []) ≡ digits (suc k) n
  alone : (k n : ℕ) → n / base < start → (n < base) × (glyph n ∷ [] ≡ digits (suc k) n)

module _ (base limit : ℕ) (few : base ≤ 16) (some : 0 < base) where
  -- one digit more is read
  one_more : (m n : ℕ) (s : List ℕ) (d : ℕ) → number_from base limit m s ≡ Some n → d < base → n * base + d ≤ limit
      → number_from base limit m (s ++ (glyph d ∷ [])) ≡ Some (n * base + d)
  one_more m n [] d e h k =
      let c : digit_of (glyph d) ≡ d = digit_glyph d (omega arith) in
      let i : m ≡ n = came_end base limit m n e in
      sym (in_range base limit m (glyph d) [] (rw c h) (rw (c, i) k)) ∙ sym (ended _ _ _) ∙ rw (c, i)
  one_more m n (b ∷ s) d e h k =
      let v = came_digit base limit m b s n e in
      sym (in_range base limit m b (s ++ (glyph d ∷ [])) v.digit v.inside) ∙ one_more (m * base + digit_of b) n s d v.rest h k

  module _ (start : ℕ) (digits : ℕ → ℕ → List ℕ) (w : Writes base start digits) where
    -- what was written is read back
    read_back : (k n : ℕ) → n < base ^ k → n ≤ limit → number_from base limit 0 (digits k n) ≡ Some n
    read_back zero n h l = rw (← w.none n) (sym (ended _ _ _) ∙ ap Some (omega (arith, pow-zero base)))
    read_back (suc k) n h l =
        let less : n / base < base ^ k = (div-lt_iff_lt-mul some).1 (rw pow-suc at h) in
        side (dec_le start (n / base)) (read_back k (n / base) less (le_trans (div-le_self n base) l))
      where
        side : Dec (start ≤ n / base) → number_from base limit 0 (digits k (n / base)) ≡ Some (n / base)
            → number_from base limit 0 (digits (suc k) n) ≡ Some n
        side (yes p) e =
            let all : n / base * base + n % base ≡ n = div-add-mod' n base in
            rw (← w.more k n p) (one_more 0 (n / base) (digits k (n / base)) (n % base) e (mod-lt n some) (rw all l) ∙ ap Some all)
        side (no p) e =
            let a = w.alone k n (omega arith) in
            rw (← a.1) (one_more 0 0 [] n (sym (ended _ _ _)) a.0 (omega arith) ∙ ap Some (omega arith))

    -- what is read on after m are the digits that would be written on
    read_on : (j m n : ℕ) (s : List ℕ) → start ≤ m → number_from base limit m s ≡ Some n → digits j m ++ s ≡ digits (j + length s) n
    read_on j m n [] h e = rw (append-nil, came_end base limit m n e, add-zero)
    read_on j m n (b ∷ s) h e =
        let v = came_digit base limit m b s n e in
        let up : start ≤ m * base + digit_of b = omega (arith, mul-le-mul (le_refl m) some) in
        let last : digits j m ++ (b ∷ []) ≡ digits (suc j) (m * base + digit_of b) =
        rw (digits_div m v.digit, digits_mod m v.digit, glyph_digit b (le_trans v.digit few)) at
        (w.more j (m * base + digit_of b) (rw (digits_div m v.digit) h)) in
        let all : suc j + length s ≡ j + suc (length s) = omega arith in
        sym (append_snoc (digits j m) b s)
        ∙ ap (λ (l : List ℕ). l ++ s) last
        ∙ read_on (suc j) (m * base + digit_of b) n s up v.rest
        ∙ ap (λ (k : ℕ). digits k n) all

-- eight hex digits
hex_writes : Writes 16 0 hex_digits
unfolding hex_digits
hex_writes = record { none = λ n. refl; more = λ k n h. hex_more k n; alone = λ k n h. absurd (let z : ⊥ = omega arith in z) }

hex_back : (n : ℕ) → n ≤ 0xffff_ffff → hex_of (hex_bytes n) ≡ Some n
unfolding hex_bytes
hex_back n h =
    let small : n < 16 ^ 8 = omega arith in
    let e = read_back 16 0xffff_ffff (omega arith) (omega arith) 0 hex_digits hex_writes 8 n small h in
    sym (hex_number (hex_digits 8 n) (hex_digits_lem 8 n) (sym e))

hex_only : (s : List ℕ) (n : ℕ) → hex_of s ≡ Some n → s ≡ hex_bytes n
unfolding hex_bytes
hex_only s n e =
    let v = came_hex s n e in
    let all : 0 + length s ≡ 8 = omega (arith, v.0) in
    ap (λ (l : List ℕ). l ++ s) (hex_writes.none 0)
    ∙ read_on 16 0xffff_ffff (omega arith) (omega arith) 0 hex_digits hex_writes 0 0 n s (omega arith) v.1
    ∙ ap (λ (k : ℕ). hex_digits k n) all

pub hex_round_trip : HexRoundTrip
hex_round_trip = record { back = hex_back; only = λ s n e. (hex_small s n e, hex_only s n e) }

-- decimal, with no leading zero
dec_writes : Writes 10 1 dec_digits
unfolding dec_digits
dec_writes = record {
  none = λ n. refl;
  more = λ k n h. dec_more k n (omega arith);
  alone = λ k n h. (omega arith, dec_one k n (omega arith));
}

abbrev Leads : List ℕ → Type 0
Leads [] = ⊥
Leads (b ∷ s) = b ≡ 48 → ⊥

leads_on : (l x : List ℕ) → Leads l → Leads (l ++ x)
leads_on [] x h = absurd h
leads_on (b ∷ l) x h = h

no_zero : (n : ℕ) → 1 ≤ n → n < 10 → glyph n ≡ 48 → ⊥
unfolding digit_of
no_zero n p q e = let z : n ≡ 0 = sym (digit_glyph n (omega arith)) ∙ ap digit_of e in omega arith

leads : (k n : ℕ) → 1 ≤ n → n < 10 ^ k → Leads (dec_digits k n)
leads zero n p h = absurd (let z : ⊥ = omega arith in z)
leads (suc k) n p h = side (dec_lt n 10) (λ (q : 1 ≤ n / 10). leads k (n / 10) q (omega arith))
  where
    side : Dec (n < 10) → (1 ≤ n / 10 → Leads (dec_digits k (n / 10))) → Leads (dec_digits (suc k) n)
    side (yes q) before = rw (← dec_one k n q) (no_zero n p q)
    side (no q) before = rw (← dec_more k n (omega arith)) (leads_on (dec_digits k (n / 10)) (glyph (n % 10) ∷ []) (before (omega arith)))

leads_dec : (l : List ℕ) {r : Option ℕ} → Leads l → r ≡ number_from 10 65535 0 l → r ≡ dec_of l
leads_dec [] h e = absurd h
leads_dec (b ∷ l) h e = dec_number (b ∷ l) (λ (z : length (b ∷ l) ≡ 0). omega arith) (not_first (ltb 1 (length (b ∷ l))) (ne_eqb b 48 h)) e

zero_back : dec_of (dec_digits 20 0) ≡ Some 0
unfolding dec_of dec_digits number_from digit_of glyph
zero_back = refl

dec_back : (n : ℕ) → n ≤ 65535 → dec_of (dec_bytes n) ≡ Some n
unfolding dec_bytes
dec_back n h = side (dec_le 1 n)
  where
    small : n < 10 ^ 20
    small = lt_of_le_of_lt h (lit< tt)

    side : Dec (1 ≤ n) → dec_of (dec_digits 20 n) ≡ Some n
    side (yes p) =
        let e = read_back 10 65535 (omega arith) (omega arith) 1 dec_digits dec_writes 20 n small h in
        sym (leads_dec (dec_digits 20 n) (leads 20 n p small) (sym e))
    side (no p) = let z : n ≡ 0 = omega arith in rw z zero_back

single : (j b : ℕ) → digit_of b < 10 → b ∷ [] ≡ dec_digits (suc j) (0 * 10 + digit_of b)
single j b h =
    let z : digit_of b ≡ 0 * 10 + digit_of b = omega arith in
    ap (λ (c : ℕ). c ∷ []) (sym (glyph_digit b (omega arith))) ∙ dec_one j (digit_of b) h ∙ ap (λ (n : ℕ). dec_digits (suc j) n) z

dec_only : (s : List ℕ) (n : ℕ) → dec_of s ≡ Some n → s ≡ dec_bytes n
unfolding dec_bytes
dec_only [] n e = absurd ((came_dec [] n e).some refl)
dec_only (b ∷ []) n e =
    let v = came_digit 10 65535 0 b [] n (came_dec (b ∷ []) n e).number in
    single 19 b v.digit ∙ ap (λ (m : ℕ). dec_digits 20 m) (came_end 10 65535 (0 * 10 + digit_of b) n v.rest)
dec_only (b ∷ c ∷ s) n e =
    let was = came_dec (b ∷ c ∷ s) n e in
    let v = came_digit 10 65535 0 b (c ∷ s) n was.number in
    let counts : 1 ≤ 0 * 10 + digit_of b = omega (arith, lead_counts b (c ∷ s) n was (omega arith)) in
    let j = 19 - length (c ∷ s) in
    let all : suc (19 - length (c ∷ s)) + length (c ∷ s) ≡ 20 = omega (arith, dec_short (b ∷ c ∷ s) n e) in
    ap (λ (l : List ℕ). l ++ (c ∷ s)) (single j b v.digit)
    ∙ read_on 10 65535 (omega arith) (omega arith) 1 dec_digits dec_writes (suc j) (0 * 10 + digit_of b) n (c ∷ s) counts v.rest
    ∙ ap (λ (k : ℕ). dec_digits k n) all

pub dec_round_trip : DecRoundTrip
dec_round_trip = record { back = dec_back; only = λ s n e. (dec_small s n e, dec_only s n e) }
