-- Fields written one after the other: none yet, one more, all of them. For any kind of field. Assumes nothing.
use Prim.Native.Nat.{ℕ, ◌+◌, ◌≤◌, ◌<◌}
use native.Mathlib.Numerals.{add-one}
use mathlib.Core.Path.{◌≡◌}
use mathlib.Core.List.{List, [], ◌∷◌, ◌++◌, append_assoc, append-nil}
use lib.ListN.{get_or, length, take}
use lib.Seq.{take_all, take-suc}
use Rattle.text_digits.specs.declared.Page.{Page}
use Rattle.text_digits.specs.Wrote.{Writes}
use Rattle.text_digits.proofs.Then.{idle, onward}
use Rattle.text_write.specs.Lines.{joined}

module _ (field : ℕ → List ℕ) where
  joined_snoc : (x : List ℕ) (n : ℕ) → joined field (x ++ (n ∷ [])) ≡ joined field x ++ field n
  unfolding joined
  joined_snoc [] n = simp append-nil
  joined_snoc (a ∷ x) n = rw (joined_snoc x n, append_assoc)

  module _ (l : List ℕ) {p : Page} where
    pub none_yet : p.at ≤ length p.out.now → Writes p (joined field (take 0 l)) p
    unfolding joined
    none_yet h = idle p h

    pub one_more : {q r : Page} (i : ℕ) → i < length l → Writes p (joined field (take i l)) q → Writes q (field (get_or l i 0)) r
        → Writes p (joined field (take (i + 1) l)) r
    one_more i h v w = rw (add-one, take-suc l i 0 h, joined_snoc) (onward v w)

    pub all_of_them : {q : Page} (i : ℕ) → length l ≤ i → Writes p (joined field (take i l)) q → Writes p (joined field l) q
    all_of_them i h v = rw (take_all i l h) at v

-- the floats of a line, and its end
pub all_ended : (field : ℕ → List ℕ) (l : List ℕ) {p q r : Page} (i : ℕ) → length l ≤ i → Writes p (joined field (take i l)) q
    → Writes q (10 ∷ []) r → Writes p (joined field l ++ (10 ∷ [])) r
all_ended field l i h v w = onward (all_of_them field l i h v) w
