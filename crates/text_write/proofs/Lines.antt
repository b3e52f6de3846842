-- A line written field by field, and lines one after the other: none yet, one more, all of them. Assumes nothing.
use Prim.Native.Nat.{ℕ, ◌+◌, ◌≤◌}
use native.Mathlib.Numerals.{add-one}
use native.Mathlib.Omega.{arith}
use mathlib.Core.Path.{◌≡◌}
use mathlib.Core.List.{List, [], ◌∷◌, ◌++◌, append_assoc}
use Rattle.text_digits.specs.Digits.{dec_field, hex_field}
use Rattle.text_digits.specs.declared.Page.{Page}
use Rattle.text_digits.specs.Wrote.{Writes}
use Rattle.text_digits.proofs.Then.{idle, onward, ready}
use Rattle.text_write.specs.Lines.{each, joined, line}

module _ {p : Page} where
  -- the letter, the numbers, and the floats with byte 10
  pub line_written : {q r t : Page} (letter : ℕ) (numbers bits : List ℕ) → Writes p (letter ∷ []) q → Writes q (joined dec_field numbers) r
      → Writes r (joined hex_field bits ++ (10 ∷ [])) t → Writes p (line letter numbers bits) t
  unfolding line
  line_written letter numbers bits v w x = rw append_assoc (onward (onward v w) x)

  -- two numbers, one after the other
  pub pair_written : {q r s t : Page} (letter n m : ℕ) (bits : List ℕ) → Writes p (letter ∷ []) q → Writes q (dec_field n) r
      → Writes r (dec_field m) s → Writes s (joined hex_field bits ++ (10 ∷ [])) t → Writes p (line letter (n ∷ m ∷ []) bits) t
  unfolding joined
  pair_written letter n m bits v w x y = line_written letter (n ∷ m ∷ []) bits v (onward w (onward x (idle _ (ready x)))) y

  module _ (f : ℕ → List ℕ) where
    -- no line yet, at the place where writing starts
    pub from_start : {q : Page} → Writes p [] q → Writes p (each f 0) q
    unfolding each
    from_start v = v

    pub line_more : {q r : Page} (i : ℕ) → Writes p (each f i) q → Writes q (f i) r → Writes p (each f (i + 1)) r
    unfolding each
    line_more i v w = rw add-one (onward v w)

    pub all_lines : {q : Page} (i n : ℕ) → i ≤ n → n ≤ i → Writes p (each f i) q → Writes p (each f n) q
    all_lines i n h k v = let e : n ≡ i = omega arith in rw e v
