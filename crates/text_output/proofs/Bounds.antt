-- How long an output can be. Assumes nothing.
use Prim.Native.Nat.{ℕ, ◌*◌, ◌≤◌, ◌<◌, min}
use native.Mathlib.Decide.{dec_lt}
use native.Mathlib.Omega.{arith}
use borrow.Author.Tests.{eqb-true}
use mathlib.Core.Bool.{Bool, true, false}
use mathlib.Core.List.{List, [], ◌∷◌, ◌++◌}
use mathlib.Core.Path.{◌≡◌, refl}
use lib.Dec.{eqb}
use lib.Ieee.{Float}
use lib.ListN.{get_or, length, length-append, length-take, get_or-eq_default, take}
use lib.Seq.{get_or-take}
use Rattle.base_words.specs.Choice.{if◌then◌otherwise◌}
use Rattle.base_places.specs.Places.{answer_width, body_width, floats_width, step_width}
use Rattle.base_places.specs.Lengths.{longest_output, program_bodies, program_contacts, program_steps}
use Rattle.base_rows.specs.Rows.{rows}
use Rattle.call_rules.specs.Call.{Ended}
use Rattle.call_rules.specs.Few.{FewTold}
use Rattle.call_rules.proofs.Demands.{demand1, few_told}
use Rattle.text_line.specs.Night.{Night, of_program}
use Rattle.text_read.specs.Text.{Text, reading, refused, text_of}
use Rattle.text_held.specs.Held.{WholeRows}
use Rattle.text_held.proofs.Held.{tables_hold}
use Rattle.text_write.specs.Lines.{e_line, r_line}
use Rattle.text_rows.specs.Tables.{Answers, Bodies, Loads, listing}
use Rattle.text_write.proofs.Lengths.{Small, e_line_length, r_line_length, x_line_length}
use Rattle.text_rows.proofs.Lengths.{answers_length, bodies_length, loads_length}
use Rattle.text_output.specs.Bounds.{OutputFits}
use Rattle.text_output.specs.Answer.{answer, called, lent, lines, prints, written}
use Rattle.text_output.specs.Output.{output, output_of}

-- the steps done are no more than the list has
pub few_done : (t : Night) → (called t).refusal ≡ 0 → (called t).done * step_width ≤ length t.steps
unfolding called lent
few_done t h =
    let e : (called t).done ≡ min (rows step_width t.steps) (rows step_width t.steps) = ((demand1 _ _ (called t) refl).goes_on h).0 in
    omega arith

few_called : (t : Night) → FewTold (called t)
unfolding called
few_called t = few_told (lent t) _ (called t) refl

prints_short : (xs : List Float) (kept : List ℕ) → length (prints xs kept) ≤ length kept
unfolding prints
prints_short [] kept = omega arith
prints_short (x ∷ xs) [] = omega arith
prints_short (x ∷ xs) (k ∷ kept) = omega (arith, prints_short xs kept)

module _ (done refusals : ℕ) (told bodies numbers floats : List ℕ) where
  lines_fit : done ≤ program_steps → refusals ≤ done → length told ≤ done * answer_width → Small told → length bodies ≤ program_bodies * body_width
      → length floats ≤ program_contacts * floats_width
      → length (lines done refusals told bodies numbers floats) ≤ longest_output
  unfolding lines
  lines_fit few fewer p small q r =
      rw (
        length-append (listing Answers told [] ++ listing Bodies [] bodies ++ listing Loads numbers floats) (e_line done refusals),
        length-append (listing Answers told [] ++ listing Bodies [] bodies) (listing Loads numbers floats),
        length-append (listing Answers told []) (listing Bodies [] bodies),
      )
      (omega (
        arith,
        answers_length told [] small,
        bodies_length [] bodies,
        loads_length numbers floats (omega arith),
        e_line_length done refusals (omega arith) (omega arith),
      ))

-- what is told of the answers are numbers of the text form
told_small : (e : Ended) → FewTold e → Small (take (e.done * answer_width) e.room)
told_small e few j = side (dec_lt j (e.done * answer_width))
  where
    side : Dec (j < e.done * answer_width) → get_or (take (e.done * answer_width) e.room) j 0 < 65536
    side (yes h) = rw (get_or-take (e.done * answer_width) e.room j 0 h) (omega (arith, few.answers j h))
    side (no h) = rw (get_or-eq_default (take (e.done * answer_width) e.room) 0 {n = j} (rw length-take (omega arith))) (omega arith)

written_fits : (t : Night) → WholeRows t → (done : Bool) → eqb (called t).refusal 0 ≡ done
    → length
    (if done
    then lines (called t).done (called t).refused (take ((called t).done * answer_width) (called t).room)
    (prints (called t).tables.bodies t.bodies) t.numbers (prints (called t).tables.floats t.floats)
    otherwise r_line (called t).refusal)
    ≤ longest_output
written_fits t h true e =
    lines_fit _ _ _ _ t.numbers _ (omega (arith, few_done t (eqb-true _ _ e), h.steps, h.few_steps)) (few_called t).refused
    (omega (arith, length-take ((called t).done * answer_width) (called t).room)) (told_small (called t) (few_called t))
    (omega (arith, prints_short (called t).tables.bodies t.bodies, h.bodies, h.few_bodies))
    (omega (arith, prints_short (called t).tables.floats t.floats, h.floats, h.few_contacts))
written_fits t h false e = omega (arith, r_line_length (called t).refusal)

answer_fits : (t : Night) → WholeRows t → length (answer t) ≤ longest_output
unfolding answer written
answer_fits t h = written_fits t h (eqb (called t).refusal 0) refl

fits_by : (input : List ℕ) (x : Text) → text_of of_program input ≡ x → length (output_of x) ≤ longest_output
unfolding output_of
fits_by input (reading line n t) e = answer_fits t (tables_hold input line n t e)
fits_by input (refused number reason t) e = omega (arith, x_line_length number reason)

pub output_fits : OutputFits
unfolding output
output_fits input = fits_by input (text_of of_program input) refl
