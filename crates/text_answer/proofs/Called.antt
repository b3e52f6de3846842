-- The call's report and tables as what is written of a night. Assumes nothing.
use Prim.Native.Nat.{ℕ, ◌*◌, ◌≤◌, ◌<◌}
use native.Mathlib.Omega.{arith}
use Rattle.std.proofs.Common.{Result, Ok, Err}
use mathlib.Core.List.{List, []}
use mathlib.Core.Path.{◌≡◌, refl, sym, ◌∙◌}
use lib.Ieee.{Float}
use lib.ListN.{length, take}
use lib.Seq.{take_all}
use Rattle.base_places.specs.Places.{answer_width, step_width}
use Rattle.base_places.specs.Lengths.{program_steps}
use Rattle.base_rows.specs.Rows.{rows}
use Rattle.base_rows.proofs.Fronts.{front_long}
use Rattle.list_rules.specs.Sweep.{tables}
use Rattle.call_rules.specs.Call.{Ended, lend}
use Rattle.call_rules.specs.Demands.{Demand2}
use Rattle.base_refusals.proofs.Told.{not_success}
use Rattle.base_refusals.specs.Numbers.{refusal_number}
use Rattle.base_refusals.specs.declared.Refusal.{Refusal}
use Rattle.call.specs.declared.Done.{Done}
use Rattle.text_digits.specs.declared.Page.{Page}
use Rattle.text_digits.specs.Wrote.{Writes}
use Rattle.text_digits.proofs.Then.{onward}
use Rattle.text_line.specs.Filled.{cells, night_of}
use Rattle.text_line.specs.declared.State.{State}
use Rattle.text_write.specs.Lines.{e_line, r_line}
use Rattle.text_rows.specs.Tables.{Answers, Bodies, Loads, listing}
use Rattle.text_output.specs.Answer.{answer, called, floats_of, lent, lines, prints, written, zeros}
use Rattle.text_answer.specs.declared.Read.{Read}
use Rattle.text_answer.specs.declared.Room.{Room}
use Rattle.text_answer.specs.Calling.{Called, left_in, night, night_in}

-- the call on floats made of the patterns is the night's call
pub called_is : (t : Read) (v : Room) {e : Ended} {body_values contact_values : List Float}
    → body_values ≡ floats_of t.bodies.now → contact_values ≡ floats_of t.floats.now → v.answers.now ≡ zeros (program_steps * answer_width)
    → Demand2 (lend (tables body_values t.numbers.now contact_values) t.steps.now v.answers.now) (rows step_width t.steps.now) e
    → e ≡ called (night_in t)
unfolding called lent
called_is t v p q r d = d ∙ rw (p, q, r)

-- the answers of the steps done, where the room has more, and where it has no more
pub done_front : (room : List ℕ) (done : ℕ) → done ≤ rows answer_width room → done * answer_width ≡ length (take (done * answer_width) room)
done_front room done h = front_long (done * answer_width) room (omega arith)

pub all_room : (room : List ℕ) (done : ℕ) → rows answer_width room < done → room ≡ take (done * answer_width) room
all_room room done h = sym (take_all (done * answer_width) room (omega arith))

-- four parts written one after the other
pub all_lines : {p q r s t : Page} (done refusals : ℕ) (bodies numbers floats room : List ℕ) {told : List ℕ} → told ≡ take (done * answer_width) room
    → Writes p (listing Answers told []) q → Writes q (listing Bodies [] bodies) r → Writes r (listing Loads numbers floats) s
    → Writes s (e_line done refusals) t → Writes p (lines done refusals (take (done * answer_width) room) bodies numbers floats) t
unfolding lines
all_lines done refusals bodies numbers floats room e v w x y = rw (← e) (onward (onward (onward v w) x) y)

-- what is written after the call: of a refused one, and of one that was done
module _ (t : Read) (v : Room) (e : Result Done Refusal) {p q : Page} where
  pub refused_written : {r : Refusal} {n : ℕ} → e ≡ Err r → n ≡ refusal_number r → Writes p (r_line n) q → Writes p (written (night_in t) (left_in e t v)) q
  unfolding written
  refused_written {r} is n w = rw (is, not_success r) (rw n at w)

  pub done_written : {d : Done} (bodies floats : List ℕ) → e ≡ Ok d → bodies ≡ prints v.bodies.now t.bodies.now → floats ≡ prints v.contacts.now t.floats.now
      → Writes p (lines d.done d.refused (take (d.done * answer_width) v.answers.now) bodies t.numbers.now floats) q
      → Writes p (written (night_in t) (left_in e t v)) q
  unfolding written
  done_written bodies floats is b f w = rw is (rw (b, f) at w)

  -- it is the answer
  pub is_answer : Called t e v → Writes p (written (night_in t) (left_in e t v)) q → Writes p (answer (night_in t)) q
  unfolding answer
  is_answer c w = rw (← c) w

-- the place in the order of lines does not matter
pub of_state : (st : State) (bodies numbers floats steps : List ℕ)
    → answer (night_of st (cells bodies numbers floats steps))
    ≡ answer (night (take st.bodies bodies) (take st.numbers numbers) (take st.floats floats) (take st.steps steps))
unfolding answer written called lent night_of
of_state st bodies numbers floats steps = refl
