-- Rows taken off a table's front, one by one, and what is written of each. For any width n and any form of a row. Assumes nothing.
use Prim.Native.Nat.{ℕ, ◌+◌, ◌*◌, ◌<◌}
use native.Mathlib.Nat.{suc-mul, zero-mul}
use native.Mathlib.Numerals.{add-one}
use native.Mathlib.Omega.{arith}
use mathlib.Core.Path.{◌≡◌, sym, ◌∙◌, ap}
use mathlib.Core.List.{List, [], ◌∷◌, ◌++◌}
use lib.ListN.{drop, length, length-append}
use lib.Seq.{drop-append_seam, drop-drop, take-append_seam}
use Rattle.std.proofs.Common.{Bor, None, Some}
use Rattle.std.proofs.lemmas.Nat.{div-mul-add}
use Rattle.std.specs.declared.slice.ChunksExact.{ChunksExact}
use Rattle.std.specs.Slice.Iter.{chunks_exact_steps}
use Rattle.base_rows.specs.Rows.{part, row, rows}
use Rattle.text_digits.specs.declared.Page.{Page}
use Rattle.text_digits.specs.Wrote.{Writes}
use Rattle.text_write.specs.Lines.{each}
use Rattle.text_write.proofs.Lines.{from_start, line_more}

-- what is written of row i
abbrev pub of_row : (List ℕ → List ℕ) → ℕ → List ℕ → ℕ → List ℕ
of_row form n table i = form (row n i table)

-- the rows that came are written, the others are left
pub record Rowwise (form : List ℕ → List ℕ) (n : ℕ) (table : List ℕ) (p : Page) (came : List (Bor (List ℕ))) (left : ChunksExact ℕ) (q : Page) : Type 0 where
  pub written : Writes p (each (of_row form n table) (length came)) q
  pub rest : left.rest.now ≡ drop (length came * n) table
  pub long : length came * n + length left.rest.now ≡ length table
  pub wide : left.size ≡ n

module _ {form : List ℕ → List ℕ} {n : ℕ} {table : List ℕ} {p : Page} where
  pub no_row_yet : {left start : ChunksExact ℕ} {q : Page} → Writes p [] q → left ≡ start → start.rest.now ≡ table → start.size ≡ n
      → Rowwise form n table p [] left q
  no_row_yet {left} v same e w =
      let none : 0 * n ≡ 0 = zero-mul n in
      let all : left.rest.now ≡ table = rw same e in
      record { written = from_start (of_row form n table) v; rest = rw none all; long = omega (arith, none, ap length all); wide = rw same w }

  module _ {came : List (Bor (List ℕ))} {left left' : ChunksExact ℕ} {q : Page} (v : Rowwise form n table p came left q) where
    pub row_more : (x : Bor (List ℕ)) {r : Page} → chunks_exact_steps left (Some x) left' → Writes q (form x.now) r
        → Rowwise form n table p (came ++ (x ∷ [])) left' r
    unfolding part
    row_more x {r} s w =
        let e : left.rest.now ≡ x.now ++ left'.rest.now = cc in
        let width : n ≡ length x.now = cc in
        let whole : drop (length came * n) table ≡ x.now ++ left'.rest.now = sym v.rest ∙ e in
        let here : row n (length came) table ≡ x.now = rw (whole, width, take-append_seam) in
        let more : length (came ++ (x ∷ [])) ≡ length came + 1 = length-append came (x ∷ []) in
        let step : length (came ++ (x ∷ [])) * n ≡ length came * n + n = rw (more, add-one, suc-mul) in
        let sums : length left.rest.now ≡ length x.now + length left'.rest.now = ap length e ∙ length-append x.now left'.rest.now in
        record {
          written = rw more (line_more (of_row form n table) (length came) v.written (rw here w));
          rest = rw (step, ← drop-drop, whole, width, drop-append_seam);
          long = omega (arith, v.long, step, width, sums);
          wide = cc;
        }

    pub rows_all : chunks_exact_steps left None left' → Writes p (each (of_row form n table) (rows n table)) q
    rows_all s =
        let few : length left.rest.now < n = omega (arith, v.wide, s) in
        let many : rows n table ≡ length came = rw (← v.long) (div-mul-add (length came) n (length left.rest.now) few) in
        rw many v.written
