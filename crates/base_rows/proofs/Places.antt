-- What a row that is there reads as, and one place of a stretch set anew as its parts see it. Assumes nothing.
use Prim.Native.Nat.{ℕ, ◌+◌, ◌≤◌, ◌<◌}
use mathlib.Core.Path.{◌≡◌, refl, sym, ◌∙◌, ap}
use mathlib.Core.List.{List}
use lib.ListN.{drop, set, take}
use lib.Seq.{drop-set-add, drop-set-lt, take-set-le, take-set-lt}
use borrow.Author.Tests.{lt-ltb}
use Rattle.base_words.proofs.Pick as pick
use Rattle.base_rows.specs.Rows.{part, read_row, row, rows}

module _ {A R : Type 0} (n k : ℕ) (read : List A → R) (none : R) (l : List A) where
  -- a row that is there reads as what it says
  pub read_row_lem : k < rows n l → read_row n k read none l ≡ read (row n k l)
  unfolding read_row
  read_row_lem h = sym (pick.take none (lt-ltb k (rows n l) h) refl)

  -- what is read hangs on the row and on how many rows there are, and on nothing else
  pub same_read : (m : List A) → rows n m ≡ rows n l → row n k m ≡ row n k l → read_row n k read none m ≡ read_row n k read none l
  unfolding read_row
  same_read m many same = rw (many, same)

module _ {A : Type 0} (a n i : ℕ) (l : List A) (x : A) where
  -- place i of a part is set
  pub set_inside : i < n → part a n (set l (a + i) x) ≡ set (part a n l) i x
  unfolding part
  set_inside h = ap (take n) (drop-set-add a l i x) ∙ take-set-lt n (drop a l) i x h

  -- a place past the part is set
  pub set_after : n ≤ i → part a n (set l (a + i) x) ≡ part a n l
  unfolding part
  set_after h = ap (take n) (drop-set-add a l i x) ∙ take-set-le n (drop a l) i x h

  -- a place before the part is set
  pub set_before : i < a → part a n (set l i x) ≡ part a n l
  unfolding part
  set_before h = ap (take n) (drop-set-lt a l i x h)
