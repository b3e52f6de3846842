-- The search for a byte, and what the search for a tab says of the fields. Assumes nothing.
use Prim.Native.Nat.{ℕ, zero, suc, ◌+◌, ◌≤◌, ◌<◌}
use native.Mathlib.Nat.{le_of_suc-le-suc, not-suc-le-zero}
use native.Mathlib.Numerals.{add-one}
use native.Mathlib.Omega.{arith}
use borrow.Author.Tests.{eq-eqb, eqb-false, eqb-true, lt-leb, ne_eqb, not-true}
use mathlib.Core.Bool.{Bool, true, false, ◌&&◌, not}
use mathlib.Core.List.{List, [], ◌∷◌}
use mathlib.Core.Path.{◌≡◌, refl, sym, ◌∙◌}
use lib.Dec.{eqb, leb-suc-suc, leb-zero}
use lib.ListN.{drop, drop_of_length-le, get_or, length, take}
use lib.Seq.{drop-cons}
use Rattle.base_words.proofs.Said.{all_l, all_r}
use Rattle.text_fields.specs.Fields.{fields, fields_from, onto, until}

module _ {e : ℕ} where
  pub until_here : (s : List ℕ) {b : ℕ} → b ≡ e → until e (b ∷ s) ≡ 0
  unfolding until
  until_here s h = rw (eq-eqb _ _ h)

  pub until_on : (s : List ℕ) {b : ℕ} → (b ≡ e → ⊥) → until e (b ∷ s) ≡ suc (until e s)
  unfolding until
  until_on s h = rw (ne_eqb _ _ h)

pub until_nil : (e : ℕ) → until e [] ≡ 0
unfolding until
until_nil e = refl

-- no byte e stands from `at` to i
pub record On (s : List ℕ) (at e i : ℕ) : Type 0 where
  pub same : i + until e (drop i s) ≡ at + until e (drop at s)

module _ {s : List ℕ} {at e i : ℕ} (v : On s at e i) where
  pub on : i < length s → (get_or s i 0 ≡ e → ⊥) → On s at e (i + 1)
  on h p =
      let f = rw (drop-cons s i 0 h, until_on _ p, ← add-one i) at v.same in
      record { same = omega arith }

  pub here : i < length s → get_or s i 0 ≡ e → i ≡ at + until e (drop at s)
  here h p =
      let f = rw (drop-cons s i 0 h, until_here _ p) at v.same in
      omega arith

  pub end : length s ≤ i → i ≤ length s → length s ≡ at + until e (drop at s)
  end h k =
      let f = rw (drop_of_length-le s h, until_nil e) at v.same in
      omega arith

zero_by : (e b : ℕ) (s : List ℕ) (t : Bool) → eqb b e ≡ t → eqb b e ≡ eqb (until e (b ∷ s)) 0
zero_by e b s true q = rw (until_here s (eqb-true _ _ q)) q
zero_by e b s false q = rw (until_on s (eqb-false _ _ q)) (q ∙ sym (ne_eqb _ _ (λ (z : suc (until e s) ≡ 0). omega arith)))

-- whether a tab stands at a byte, and past the last one
pub tab_there : (s : List ℕ) (at : ℕ) → at < length s → eqb (get_or s at 0) 9 ≡ eqb (until 9 (drop at s)) 0
tab_there s at h = rw (drop-cons s at 0 h) (zero_by 9 (get_or s at 0) (drop (suc at) s) (eqb (get_or s at 0) 9) refl)

pub line_over : (s : List ℕ) (at : ℕ) → length s ≤ at → true ≡ eqb (until 9 (drop at s)) 0
line_over s at h = rw (drop_of_length-le s h, until_nil 9)

-- a byte that is no tab, and a tab
pub tab_second : (s : List ℕ) → 1 < length s → (not (eqb (get_or s 0 0) 9) && eqb (get_or s 1 0) 9) ≡ true → 1 ≡ 0 + until 9 (drop 0 s)
tab_second [] h e = absurd (omega arith)
tab_second (b ∷ []) h e = absurd (omega arith)
tab_second (b ∷ c ∷ s) h e =
    let one : eqb b 9 ≡ false = not-true _ (all_l (not (eqb b 9)) (eqb c 9) e) in
    let two : eqb c 9 ≡ true = all_r (not (eqb b 9)) (eqb c 9) e in
    rw (until_on (c ∷ s) (eqb-false _ _ one), until_here s (eqb-true _ _ two)) (omega arith)

from_cons : (b : ℕ) (s : List ℕ) (k : ℕ) → fields_from (b ∷ s) (suc k) ≡ fields_from s k
unfolding fields_from
from_cons b s k = rw leb-suc-suc

pub from_zero : (s : List ℕ) → fields_from s 0 ≡ fields s
unfolding fields_from
from_zero s = rw leb-zero

fields_tab : (s : List ℕ) {b : ℕ} → b ≡ 9 → fields (b ∷ s) ≡ [] ∷ fields s
unfolding fields
fields_tab s h = rw (eq-eqb _ _ h)

fields_on : (s : List ℕ) {b : ℕ} → (b ≡ 9 → ⊥) → fields (b ∷ s) ≡ onto b (fields s)
unfolding fields
fields_on s h = rw (ne_eqb _ _ h)

onto_cons : (b : ℕ) (f : List ℕ) (fs : List (List ℕ)) → onto b (f ∷ fs) ≡ (b ∷ f) ∷ fs
unfolding onto
onto_cons b f fs = refl

split_by : (b : ℕ) (s : List ℕ) (t : Bool) → eqb b 9 ≡ t → fields s ≡ take (until 9 s) s ∷ fields_from s (suc (until 9 s))
    → fields (b ∷ s) ≡ take (until 9 (b ∷ s)) (b ∷ s) ∷ fields_from (b ∷ s) (suc (until 9 (b ∷ s)))
split_by b s true e h = rw (fields_tab s (eqb-true _ _ e), until_here s (eqb-true _ _ e), from_cons, from_zero)
split_by b s false e h = rw (fields_on s (eqb-false _ _ e), until_on s (eqb-false _ _ e), from_cons, h, onto_cons)

fields_split : (s : List ℕ) → fields s ≡ take (until 9 s) s ∷ fields_from s (suc (until 9 s))
unfolding fields until fields_from
fields_split [] = refl
fields_split (b ∷ s) = split_by b s (eqb b 9) refl (fields_split s)

-- the first of the fields from `at` on, and those after it
pub first : (s : List ℕ) (at : ℕ) → at ≤ length s
    → fields_from s at ≡ take (until 9 (drop at s)) (drop at s) ∷ fields_from s (at + until 9 (drop at s) + 1)
first s zero h =
    let e : 0 + until 9 s + 1 ≡ suc (until 9 s) = omega arith in
    rw (e, from_zero, fields_split)
first [] (suc k) h = absurd (not-suc-le-zero h)
first (b ∷ s) (suc k) h =
    let e : suc k + until 9 (drop k s) + 1 ≡ suc (k + until 9 (drop k s) + 1) = omega arith in
    rw (e, from_cons, from_cons) (first s k (le_of_suc-le-suc h))

pub past : (s : List ℕ) (at : ℕ) → length s < at → fields_from s at ≡ []
unfolding fields_from
past s at h = rw (lt-leb _ _ h)
