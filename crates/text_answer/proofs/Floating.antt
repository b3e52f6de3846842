-- A table of patterns made a table of floats, number by number; and the patterns that are printed for it. Assumes nothing.
use Prim.Native.Nat.{ℕ, zero, suc, ◌+◌, ◌≤◌, ◌<◌}
use native.Mathlib.Nat.{le_of_suc-le-suc, not-suc-le-zero}
use native.Mathlib.Numerals.{add-one}
use native.Mathlib.Omega.{arith}
use mathlib.Core.List.{List, [], ◌∷◌, append-nil, map}
use mathlib.Core.Path.{◌≡◌, refl, ap, ◌∙◌}
use lib.Ieee.{Float, nan}
use lib.ListN.{drop, drop_of_length-le, get_or, length, length-map, set, take}
use lib.Seq.{drop-cons, sets, sets-eq, take_all}
use Rattle.text_digits.specs.Bits.{printed, value_of}
use Rattle.text_output.specs.Answer.{floats_of, prints}

sets_all : (xs ys : List Float) → length ys ≡ length xs → sets xs 0 ys ≡ ys
sets_all xs ys e =
    let f : 0 + length ys ≡ length xs = omega arith in
    rw (sets-eq ys xs 0 (omega arith), drop_of_length-le xs {i = 0 + length ys} (omega arith)) (append-nil ys)

-- with the floats from number i on still to be stored, xs comes to g
pub record Left (xs : List Float) (bits : List ℕ) (i : ℕ) (g : List Float) : Type 0 where
  pub same : sets xs i (floats_of (drop i bits)) ≡ g

pub begin : (xs : List Float) (bits : List ℕ) → length bits ≡ length xs → Left xs bits 0 (floats_of bits)
unfolding floats_of
begin xs bits e = record { same = sets_all xs (map value_of bits) (length-map bits value_of ∙ e) }

module _ {xs : List Float} {bits : List ℕ} {i : ℕ} {g : List Float} (v : Left xs bits i g) where
  pub turn : i < length bits → {x : Float} → x ≡ value_of (get_or bits i 0) → Left (set xs i x) bits (i + 1) g
  unfolding floats_of
  turn h e = record { same = rw (add-one, e) (rw (drop-cons bits i 0 h) at v.same) }

  pub over : length bits ≤ i → xs ≡ g
  unfolding floats_of
  over h = rw (drop_of_length-le bits h) at v.same

-- one more number printed
snoc : (xs : List Float) (kept : List ℕ) (i : ℕ) → i < length xs → i < length kept
    → set (prints (take i xs) kept) i (printed (get_or xs i nan) (get_or (prints (take i xs) kept) i 0)) ≡ prints (take (suc i) xs) kept
unfolding prints
snoc [] kept i h p = absurd (not-suc-le-zero h)
snoc (x ∷ xs) [] i h p = absurd (not-suc-le-zero p)
snoc (x ∷ xs) (k ∷ kept) zero h p = refl
snoc (x ∷ xs) (k ∷ kept) (suc i) h p = ap (λ (l : List ℕ). printed x k ∷ l) (snoc xs kept i (le_of_suc-le-suc h) (le_of_suc-le-suc p))

-- the first i numbers are printed
pub record Printing (xs : List Float) (kept₀ : List ℕ) (i : ℕ) (kept : List ℕ) : Type 0 where
  pub same : kept ≡ prints (take i xs) kept₀

pub none_printed : (xs : List Float) (kept : List ℕ) → Printing xs kept 0 kept
unfolding prints
none_printed xs kept = record { same = refl }

module _ {xs : List Float} {kept₀ : List ℕ} {i : ℕ} {kept : List ℕ} (v : Printing xs kept₀ i kept) where
  pub print_one : length kept₀ ≡ length xs → i < length xs → {r : ℕ} → r ≡ printed (get_or xs i nan) (get_or kept i 0)
      → Printing xs kept₀ (i + 1) (set kept i r)
  print_one l h e = record { same = rw (add-one, e, v.same) (snoc xs kept₀ i h (omega arith)) }

  pub all_printed : length xs ≤ i → kept ≡ prints xs kept₀
  all_printed h = rw (take_all i xs h) at v.same
