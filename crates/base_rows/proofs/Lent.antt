-- A row lent as a part of its stretch: how the language names such a part, and how `row` and `on_row` do. Assumes nothing.
use Prim.Native.Nat.{ℕ, ◌+◌, ◌*◌, ◌-◌, ◌≤◌, ◌<◌}
use native.Mathlib.Nat.{add-sub_cancel_left}
use mathlib.Core.Path.{◌≡◌, sym, ◌∙◌, ap}
use mathlib.Core.List.{List}
use lib.ListN.{take, drop}
use borrow.Author.Tests.{lt-ltb, le-ltb}
use borrow.Rule.Slice.PartMut.{put_mid}
use Rattle.base_words.proofs.Pick.{pass}
use Rattle.base_words.proofs.Pick as pick
use Rattle.base_rows.specs.Rows.{on_part, on_row, part, read_row, row, rows}
use Rattle.base_rows.proofs.Laws.{on_row_there, on_row_past}

-- a part of n elements, from its start to its end
pub between : {A : Type 0} (a n : ℕ) (l : List A) → take (a + n - a) (drop a l) ≡ part a n l
unfolding part
between a n l = rw add-sub_cancel_left

-- the part came back as f makes it
pub part_written : {A : Type 0} (a n : ℕ) (l : List A) (f : List A → List A) {back : List A} → back ≡ f (take (a + n - a) (drop a l))
    → put_mid a (a + n - a) l back ≡ on_part a n f l
unfolding on_part part
part_written a n l f e = rw (e, add-sub_cancel_left)

module _ {A : Type 0} (n k : ℕ) (l : List A) where
  module _ {R : Type 0} (read : List A → R) (none : R) {r : R} where
    -- what was read in the lent part was read in the row
    pub read_there : k < rows n l → r ≡ read (take (k * n + n - k * n) (drop (k * n) l)) → r ≡ read_row n k read none l
    unfolding read_row
    read_there h e = pick.take none (lt-ltb k (rows n l) h) (e ∙ ap read (between (k * n) n l))

    -- there is no such row
    pub read_past : rows n l ≤ k → r ≡ none → r ≡ read_row n k read none l
    unfolding read_row
    read_past h e = pass (read (row n k l)) (le-ltb k (rows n l) h) e

  -- the part came back as f makes it, so f was done to the row
  pub row_written : (f : List A → List A) {back : List A} → k < rows n l → back ≡ f (take (k * n + n - k * n) (drop (k * n) l))
      → put_mid (k * n) (k * n + n - k * n) l back ≡ on_row n k f l
  row_written f h e = part_written (k * n) n l f e ∙ sym (on_row_there n k f l h)

  -- there is no such row, and nothing was done
  pub row_past : (f : List A → List A) → rows n l ≤ k → l ≡ on_row n k f l
  row_past f h = sym (on_row_past n k f l h)
