-- Parts of a stretch: what a change of one part does to places and parts beside it. Assumes nothing.
use Prim.Native.Nat.{ℕ, ◌+◌, ◌-◌, ◌≤◌, ◌<◌}
use native.Mathlib.Omega.{arith}
use native.Mathlib.Nat.{lt_of_lt_of_le}
use native.Mathlib.Decide.{dec_lt}
use mathlib.Core.Path.{◌≡◌, sym, ◌∙◌, ap}
use mathlib.Core.List.{List, ◌++◌}
use mathlib.Core.Logic.{◌⊎◌, inl, inr}
use lib.ListN.{length, get_or, take, drop, length-append, length-take, length-drop, get_or-append}
use lib.Seq.{ext_get_or, get_or-take, get_or-drop, get_or-append-add, length-take-le, take_at, drop_at}
use Rattle.base_rows.specs.Rows.{on_part, part}

-- the m places from b lie beside the n places from a
abbrev pub Apart : ℕ → ℕ → ℕ → ℕ → Type 0
Apart b m a n = (b + m ≤ a) ⊎ (a + n ≤ b)

-- a place is one of the n places from a, or beside them
data Where (j a n : ℕ) : Type 0 where
  inside : a ≤ j → j < a + n → Where j a n
  beside : Apart j 1 a n → Where j a n

place : (j a n : ℕ) → Where j a n
place j a n = low (dec_lt j a)
  where
    high : a ≤ j → Dec (j < a + n) → Where j a n
    high h (yes lt) = inside h lt
    high h (no nl) = beside (inr (omega (arith, nl)))

    low : Dec (j < a) → Where j a n
    low (yes lt) = beside (inl (omega (arith, lt)))
    low (no nl) = high (omega (arith, nl)) (dec_lt j (a + n))

-- a part that lies in the stretch is as long as it says
pub length_part : {A : Type 0} (a n : ℕ) (l : List A) → a + n ≤ length l → length (part a n l) ≡ n
unfolding part
length_part a n l h = simp (length-take, length-drop) (omega arith)

-- place i of a part
pub part_at : {A : Type 0} (a n : ℕ) (l : List A) (i : ℕ) (d : A) → i < n → get_or (part a n l) i d ≡ get_or l (a + i) d
unfolding part
part_at a n l i d h = get_or-take n (drop a l) i d h ∙ get_or-drop a l i d

module _ {A : Type 0} (d : A) where
  -- an element of the first list, and one of the second
  at_left : (s t : List A) (j : ℕ) → j < length s → get_or (s ++ t) j d ≡ get_or s j d
  at_left s t j h = get_or-append s t d j h

  at_right : (s t : List A) (m j : ℕ) → length s ≡ m → m ≤ j → get_or (s ++ t) j d ≡ get_or t (j - m) d
  at_right s t m j e h =
      let q : j ≡ length s + (j - m) = omega (arith, e) in
      ap (λ (i : ℕ). get_or (s ++ t) i d) q ∙ get_or-append-add s t (j - m) d

module _ {A : Type 0} (a n : ℕ) (f : List A → List A) (l : List A) (fits : a + n ≤ length l) (keeps : length (f (part a n l)) ≡ n) where
  pub length_on_part : length (on_part a n f l) ≡ length l
  unfolding on_part
  length_on_part = simp (length-append, keeps, length-take, length-drop) (omega arith)

  pub part_itself : part a n (on_part a n f l) ≡ f (part a n l)
  unfolding on_part part
  part_itself =
      rw (drop_at (take a l) (f (take n (drop a l)) ++ drop n (drop a l)) a (length-take-le a l (omega arith)))
      (take_at (f (take n (drop a l))) (drop n (drop a l)) n keeps)

  module _ (d : A) where
    before : (j : ℕ) → j < a → get_or (on_part a n f l) j d ≡ get_or l j d
    unfolding on_part
    before j h = at_left d (take a l) _ j (simp length-take (omega arith)) ∙ get_or-take a l j d h

    after : (j : ℕ) → a + n ≤ j → get_or (on_part a n f l) j d ≡ get_or l j d
    unfolding on_part
    after j h =
        at_right d (take a l) (f (part a n l) ++ drop n (drop a l)) a j (length-take-le a l (omega arith)) (omega arith)
        ∙ at_right d (f (part a n l)) (drop n (drop a l)) n (j - a) keeps (omega arith)
        ∙ get_or-drop n (drop a l) (j - a - n) d
        ∙ get_or-drop a l (n + (j - a - n)) d
        ∙ ap (λ (i : ℕ). get_or l i d) (omega arith)

    -- a place beside the part
    pub out_part : (j : ℕ) → Apart j 1 a n → get_or (on_part a n f l) j d ≡ get_or l j d
    out_part j (inl h) = before j (omega arith)
    out_part j (inr h) = after j h

    -- a place of the part
    pub in_part : (j : ℕ) → a ≤ j → j < a + n → get_or (on_part a n f l) j d ≡ get_or (f (part a n l)) (j - a) d
    unfolding on_part
    in_part j lo hi =
        at_right d (take a l) (f (part a n l) ++ drop n (drop a l)) a j (length-take-le a l (omega arith)) lo
        ∙ at_left d (f (part a n l)) (drop n (drop a l)) (j - a) (rw keeps (omega arith))

    -- another part
    pub part_other : (b m : ℕ) → Apart b m a n → part b m (on_part a n f l) ≡ part b m l
    unfolding part
    part_other b m apart =
        ext_get_or d (take m (drop b (on_part a n f l))) (take m (drop b l))
        (simp (length-take, length-drop, length_on_part))
        (λ i h.
        let lo : i < m = lt_of_lt_of_le h (simp length-take (omega arith)) in
        get_or-take m (drop b (on_part a n f l)) i d lo
        ∙ get_or-drop b (on_part a n f l) i d
        ∙ out_part (b + i) (beside_too apart i lo)
        ∙ sym (get_or-drop b l i d)
        ∙ sym (get_or-take m (drop b l) i d lo))
      where
        beside_too : Apart b m a n → (i : ℕ) → i < m → Apart (b + i) 1 a n
        beside_too (inl h) i lo = inl (omega arith)
        beside_too (inr h) i lo = inr (omega arith)

-- changes of two parts that lie apart may be made in either order
module _ {A : Type 0} (d : A) (a n b m : ℕ) (f g : List A → List A) (l : List A) (apart : Apart b m a n) (fits_a : a + n ≤ length l)
    (fits_b : b + m ≤ length l) (keeps_f : length (f (part a n l)) ≡ n) (keeps_g : length (g (part b m l)) ≡ m) where
  pub parts_commute : on_part a n f (on_part b m g l) ≡ on_part b m g (on_part a n f l)
  parts_commute = ext_get_or d (on_part a n f lb) (on_part b m g la) (length_a ∙ sym length_b) (λ j _. at j)
    where
      la : List A
      la = on_part a n f l

      lb : List A
      lb = on_part b m g l

      other_way : Apart b m a n → Apart a n b m
      other_way (inl h) = inr h
      other_way (inr h) = inl h

      same_a : part a n lb ≡ part a n l
      same_a = part_other b m g l fits_b keeps_g d a n (other_way apart)

      same_b : part b m la ≡ part b m l
      same_b = part_other a n f l fits_a keeps_f d b m apart

      fit_a : a + n ≤ length lb
      fit_a = rw (length_on_part b m g l fits_b keeps_g) fits_a

      fit_b : b + m ≤ length la
      fit_b = rw (length_on_part a n f l fits_a keeps_f) fits_b

      keep_f : length (f (part a n lb)) ≡ n
      keep_f = rw same_a keeps_f

      keep_g : length (g (part b m la)) ≡ m
      keep_g = rw same_b keeps_g

      length_a : length (on_part a n f lb) ≡ length l
      length_a = length_on_part a n f lb fit_a keep_f ∙ length_on_part b m g l fits_b keeps_g

      length_b : length (on_part b m g la) ≡ length l
      length_b = length_on_part b m g la fit_b keep_g ∙ length_on_part a n f l fits_a keeps_f

      at : (j : ℕ) → get_or (on_part a n f lb) j d ≡ get_or (on_part b m g la) j d
      at j = both (place j a n) (place j b m)
        where
          never : Apart b m a n → a ≤ j → j < a + n → b ≤ j → j < b + m → ⊥
          never (inl h) p q r s = omega arith
          never (inr h) p q r s = omega arith

          both : Where j a n → Where j b m → get_or (on_part a n f lb) j d ≡ get_or (on_part b m g la) j d
          both (inside p q) (inside r s) = absurd (never apart p q r s)
          both (inside p q) (beside r) =
              in_part a n f lb fit_a keep_f d j p q
              ∙ ap (λ (t : List A). get_or (f t) (j - a) d) same_a
              ∙ sym (in_part a n f l fits_a keeps_f d j p q)
              ∙ sym (out_part b m g la fit_b keep_g d j r)
          both (beside p) (inside r s) =
              out_part a n f lb fit_a keep_f d j p
              ∙ in_part b m g l fits_b keeps_g d j r s
              ∙ sym (ap (λ (t : List A). get_or (g t) (j - b) d) same_b)
              ∙ sym (in_part b m g la fit_b keep_g d j r s)
          both (beside p) (beside r) =
              out_part a n f lb fit_a keep_f d j p
              ∙ out_part b m g l fits_b keeps_g d j r
              ∙ sym (out_part a n f l fits_a keeps_f d j p)
              ∙ sym (out_part b m g la fit_b keep_g d j r)
