-- What a reader carries, and its output. Assumes nothing.
use Prim.Native.Nat.{ℕ, ◌*◌, ◌≤◌}
use native.Mathlib.Omega.{arith}
use mathlib.Core.Bool.{Bool, true, false}
use mathlib.Core.List.{List, []}
use mathlib.Core.Path.{◌≡◌, refl, ◌∙◌, ap}
use lib.Ieee.{Float}
use lib.ListN.{length, length-take, take}
use Rattle.std.specs.Prelude.{Option, None, Some}
use Rattle.base_places.specs.Places.{body_width, floats_width, numbers_width, step_width}
use Rattle.base_places.specs.Lengths.{longest_output, program_bodies, program_contacts, program_steps}
use Rattle.text_digits.specs.declared.Page.{Page}
use Rattle.text_digits.specs.Wrote.{Writes, Wrote}
use Rattle.text_digits.proofs.Lengths.{exact}
use Rattle.text_fields.specs.declared.Counts.{Counts}
use Rattle.text_line.specs.Night.{Night, of_program}
use Rattle.text_line.specs.Filled.{Cells, cells, night_of, room_of}
use Rattle.text_line.specs.declared.State.{State}
use Rattle.text_read.specs.Text.{Text, text_of}
use Rattle.text_read.specs.Portions.{over}
use Rattle.text_read.specs.Carried.{ReadWhole, capped, capped_in, reading_in, settled_in, side, text_by, text_in}
use Rattle.text_read.specs.declared.Reader.{Reader}
use Rattle.text_read.proofs.Tables.{settled_night}
use Rattle.text_held.proofs.Held.{cap_never}
use Rattle.text_write.specs.Lines.{x_line}
use Rattle.text_program.specs.Answered.{Answered, AnsweredRead, InTables}
use Rattle.text_output.specs.Answer.{answer}
use Rattle.text_output.specs.Output.{output, output_of}
use Rattle.text_answer.specs.Calling.{night}
use Rattle.text_output.proofs.Bounds.{output_fits}
use Rattle.text_answer.proofs.Called.{of_state}

-- what is written of the cut tables is the answer to the night
pub cut_answer : (st : State) (bodies numbers floats steps : List ℕ) {p q : Page}
    → Writes p (answer (night (take st.bodies bodies) (take st.numbers numbers) (take st.floats floats) (take st.steps steps))) q
    → Writes p (answer (night_of st (cells bodies numbers floats steps))) q
cut_answer st bodies numbers floats steps w = rw (of_state st bodies numbers floats steps) w

-- tables cut to what was read
module _ (st : State) (bodies numbers floats steps : List ℕ) (h : InTables st (cells bodies numbers floats steps)) where
  pub bodies_cut : (values : List Float) → length values ≡ program_bodies * body_width → length (take st.bodies bodies) ≡ length (take st.bodies values)
  bodies_cut values e = rw (length-take, length-take, h.as_bodies, e)

  pub floats_cut : (values : List Float) → length values ≡ program_contacts * floats_width
      → length (take st.floats floats) ≡ length (take st.floats values)
  floats_cut values e = rw (length-take, length-take, h.as_floats, e)

pub program_room : (bodies numbers floats steps : List ℕ) → length bodies ≡ program_bodies * body_width
    → length numbers ≡ program_contacts * numbers_width → length floats ≡ program_contacts * floats_width
    → length steps ≡ program_steps * step_width → room_of (cells bodies numbers floats steps) ≡ of_program
unfolding room_of of_program
program_room bodies numbers floats steps p q r t = rw (p, q, r, t)

-- in a buffer that any output fits in, it stands whole
answered : (input : List ℕ) {o o' : List ℕ} {at : ℕ} → longest_output ≤ length o → Wrote o 0 (output input) o' at → Answered input o o' at
answered input h w =
    let e = exact w (omega (arith, output_fits input)) in
    record { many = e.0; bytes = w.bytes; told = e.1 }

-- a line that has not ended is not looked at
output_by : (c : Option ℕ) (held held' : List ℕ) (n : ℕ) (t : Night) → output_of (text_by c held n t) ≡ output_of (text_by c held' n t)
unfolding output_of
output_by None held held' n t = refl
output_by (Some reason) held held' n t = refl

over_by : (o : Bool) (x y : Text) → side o x ≡ over y → x ≡ y
over_by true x y e = cc
over_by false x y e = absurd (let z : ◌≡◌ {A = ℕ} 0 1 = cc in omega arith)

module _ (k : Reader) (w : Cells) where
  same_output : (input line : List ℕ) → reading_in k line w ≡ capped_in (over (text_of of_program input)) → output_of (text_in k [] w) ≡ output input
  unfolding reading_in capped_in output text_in
  same_output input line e =
      let x : text_in k line w ≡ capped (text_of of_program input) = over_by k.over (text_in k line w) (capped (text_of of_program input)) e in
      output_by k.bad (take k.len []) (take k.len line) k.number (night_of k.st w)
      ∙ ap output_of (x ∙ cap_never input)

module _ (k : Reader) (w : Cells) (o : List ℕ) {o' : List ℕ} {number : ℕ} (long : length o ≡ longest_output) where
  pub all_answered : Wrote o 0 (output_of (text_in k [] w)) o' number → AnsweredRead k w o o' number
  all_answered v = record {
    wrote = v;
    whole = λ input line e. answered input (omega arith) (rw (same_output k w input line e) at v);
    fits = omega (arith, v.place);
  }

-- what was read, and a bad line
module _ (k : Reader) (w : Cells) {p q : Page} where
  pub fine_written : k.bad ≡ None → {room : Counts} → room_of w ≡ room → {st : State} → st ≡ settled_in k.st room
      → Writes p (answer (night_of st w)) q → Writes p (output_of (text_in k [] w)) q
  unfolding text_in output_of
  fine_written e m s v = rw (e, ← (settled_night k.st w), m, ← s) v

  pub bad_written : (reason : ℕ) → k.bad ≡ Some reason → Writes p (x_line k.number reason) q → Writes p (output_of (text_in k [] w)) q
  unfolding text_in output_of
  bad_written reason e v = rw e v

-- a whole text
pub text_answered : (input : List ℕ) (w w' : Cells) {k : Reader} {o o' : List ℕ} {number : ℕ} → room_of w ≡ of_program
    → ReadWhole input w k w' → AnsweredRead k w' o o' number → Answered input o o' number
text_answered input w w' room e v = v.whole input [] (rw room at e.is)
