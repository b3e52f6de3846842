-- The D ended a day's input: the output stands in its buffer. Assumes nothing.
use Prim.Native.Nat.{ℕ, suc, ◌≤◌, min}
use native.Mathlib.Omega.{arith}
use mathlib.Core.Bool.{Bool, true, false}
use mathlib.Core.List.{List, [], ◌∷◌, ◌++◌, append-nil}
use mathlib.Core.Path.{◌≡◌, refl, sym, ◌∙◌, ap}
use lib.Dec.{eqb}
use lib.ListN.{length, length-take, take}
use Rattle.std.specs.Prelude.{Some}
use Rattle.text_line.specs.Night.{of_program}
use Rattle.text_line.specs.Filled.{Cells, room_of}
use Rattle.text_read.specs.Text.{feeds, unread}
use Rattle.text_read.specs.Portions.{going}
use Rattle.text_read.specs.Carried.{Ends, capped_in, reading_in}
use Rattle.text_read.specs.declared.Reader.{Reader}
use Rattle.text_read.proofs.Whole.{fed_whole}
use Rattle.text_program.specs.Answered.{Answered, AnsweredRead}
use Rattle.text_output.specs.Output.{output}
use Rattle.text_output.proofs.Bounds.{output_fits}
use Rattle.replay_days.specs.Judged.{lines_from, lines_of, only_d}
use Rattle.replay_days.specs.Going.{part_after}
use Rattle.replay_compare.specs.Spots.{holds_only}
use Rattle.replay_compare.specs.Meets.{Meets}
use Rattle.replay_compare.specs.declared.LineSoFar.{LineSoFar}
use Rattle.replay_judge.specs.Carried.{Buffers}
use Rattle.replay_judge.specs.Stands.{EndsInput, StandsPart}
use Rattle.replay_judge.specs.declared.Feeding.{Feeding}
use Rattle.replay_judge.specs.declared.Part.TheVariants.{Comparing}
use Rattle.replay_judge.proofs.WhatLine.{is_d}

-- the lines of a text are no more than its bytes and one
lines_few : (s line : List ℕ) → length (lines_from line s) ≤ suc (length s)
unfolding lines_from
lines_few [] line = by (eqb (length line) 0) refl
  where
    by : (none : Bool) → eqb (length line) 0 ≡ none → length (lines_from line []) ≤ 1
    by true e = rw e (omega arith)
    by false e = rw e (omega arith)
lines_few (b ∷ s) line = by (eqb b 10) refl (lines_few s [])
    (lines_few s (line ++ (b ∷ [])))
  where
    by : (ten : Bool) → eqb b 10 ≡ ten → length (lines_from [] s) ≤ suc (length s) → length (lines_from (line ++ (b ∷ [])) s) ≤ suc (length s)
        → length (lines_from line (b ∷ s)) ≤ suc (suc (length s))
    by true e h k = rw e (omega (arith, h))
    by false e h k = rw e (omega (arith, k))

-- the D: the output stands in its buffer, from its first line on
module _ (x out' : List ℕ) (len : ℕ) where
  fresh : len ≡ length (output x) → take len out' ≡ output x
      → Meets (record { len = len; start = 0; at = Some 0; number = 1 }) out' [] (lines_of (output x)) 1
  unfolding lines_of
  fresh many told =
      let l : length (take len out') ≡ min len (length out') = length-take len out' in
      let k : length (take len out') ≡ length (output x) = ap length told in
      record {
        len = omega (arith, many, l, k);
        start = rw told;
        on = λ at now. let here : 0 ≡ at = cc in rw (← here, told);
        off = λ now. cc;
        number = refl;
        few = omega (arith, lines_few (output x) [], output_fits x);
      }

pub at_d : (line : LineSoFar) (f : Feeding) (input : Buffers) (out : List ℕ) {t : Bool} {k : Reader} {line' : List ℕ} {w' : Cells} {out' : List ℕ} {len : ℕ}
    (after : Buffers) → t ≡ holds_only line 68 → t ≡ true → room_of input.tables ≡ of_program
    → Ends f.reader input.line input.tables k line' w' → AnsweredRead k w' out out' len
    → EndsInput line f input out (Comparing (record { len = len; start = 0; at = Some 0; number = 1 })) after out'
unfolding part_after StandsPart
at_d line f input out {k = k} {line' = line'} {out' = out'} {len = len} after e d room ended v x l is h =
    let only : only_d l ≡ true = sym (is_d l is e) ∙ d in
    let start : reading_in f.reader input.line input.tables ≡ capped_in (going (feeds (room_of input.tables) unread x)) =
    h.carried ∙ rw (only, append-nil) in
    let told : Answered x out out' len = v.whole x line' (rw room at (fed_whole x start ended)) in
    rw only (fresh x out' len told.many told.told)
