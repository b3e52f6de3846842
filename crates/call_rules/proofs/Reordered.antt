-- Demand 3: two calls on the same tables whose lists differ only in the order of steps that share nothing. Assumes nothing.
use Prim.Native.Nat.{ℕ, ◌≤◌, ◌<◌}
use native.Mathlib.Nat.{le_refl}
use native.Mathlib.Omega.{arith}
use mathlib.Core.List.{List}
use mathlib.Core.Path.{◌≡◌, sym, ◌∙◌, ap}
use lib.ListN.{get_or, length}
use Rattle.base_places.specs.Places.{step_width}
use Rattle.base_refusals.specs.Refusals.{first}
use Rattle.base_rows.specs.Rows.{rows}
use Rattle.list_cells.specs.declared.Answer.{Answer}
use Rattle.base_order.specs.OneByOne.{answers, count, finish}
use Rattle.base_order.specs.Reordered.{SameOutcome}
use Rattle.base_order.proofs.Reorder.{same_any, same_length}
use Rattle.list_rules.specs.Sweep.{is_refused, step_on, sweep}
use Rattle.list_rules.proofs.Going.{length-first}
use Rattle.list_rules.proofs.Room.{answer_told, refused_are, tables_are}
use Rattle.list_sharing.specs.Reordering.{no_answer}
use Rattle.list_sharing.proofs.Reordering.{lists_reordered}
use Rattle.list_checks.specs.Checks.{whole_call}
use Rattle.list_checks.proofs.Alike.{checked_alike}
use Rattle.list_checks.proofs.Passed as passed
use Rattle.call_rules.specs.Call.{Ended, Lent, all_done, nothing_done, steps_done}
use Rattle.call_rules.specs.Demands.{Demand3, Demand3Accepted, Matched, Rearranged, SameEnd, answer_to, steps_of}
use Rattle.call_rules.proofs.Demands.{How, all_done_lem, how, refused_by}

-- a call that is not refused and runs to its list's end
module _ (lent : Lent) (budget : ℕ) (e : Ended) (enough : rows step_width lent.steps ≤ budget)
    (passes : first (whole_call lent.tables lent.steps lent.room) ≡ 0)
    (is : e ≡ all_done (steps_done lent budget) (sweep lent.steps (steps_done lent budget) lent.tables lent.room)) where
  abbrev list : ℕ
  list = rows step_width lent.steps

  abbrev given : List Answer
  given = answers step_on (steps_of lent) lent.tables

  to_end : steps_done lent budget ≡ list
  to_end = omega arith

  is_all : e ≡ all_done list (sweep lent.steps list lent.tables lent.room)
  is_all = rw to_end at is

  none_refused : e.refusal ≡ 0
  unfolding all_done
  none_refused = ap (λ (x : Ended). x.refusal) is

  all_steps : e.done ≡ list
  unfolding all_done
  all_steps = ap (λ (x : Ended). x.done) is_all

  ends_in : e.tables ≡ finish step_on (steps_of lent) lent.tables
  unfolding all_done
  ends_in = ap (λ (x : Ended). x.tables) is_all ∙ tables_are lent.steps lent.tables lent.room list

  refuses : e.refused ≡ count is_refused given
  unfolding all_done
  refuses = ap (λ (x : Ended). x.refused) is_all ∙ refused_are lent.steps lent.tables lent.room list

  tells : (i : ℕ) → i < list → answer_to i e ≡ get_or given i no_answer
  unfolding all_done
  tells i h =
      ap (λ (x : Ended). answer_to i x) is_all
      ∙ answer_told lent.steps lent.tables lent.room no_answer list i h (le_refl list)
      (passed.room_enough lent.tables lent.steps lent.room passes)

-- two lists that are so matched, on the same tables
module _ (one two : Lent) (same_tables : two.tables ≡ one.tables) (m : Matched one two) where
  many : (lent : Lent) → length (steps_of lent) ≡ rows step_width lent.steps
  many lent = length-first lent.steps (rows step_width lent.steps) (le_refl (rows step_width lent.steps))

  -- they are as long
  as_many : rows step_width two.steps ≡ rows step_width one.steps
  as_many = sym (many two) ∙ same_length (steps_of one) (steps_of two) m ∙ many one

  -- one by one, they come to the same
  same : SameOutcome step_on m.there no_answer (steps_of one) (steps_of two) one.tables
  same = lists_reordered (steps_of one) (steps_of two) one.tables m

  -- and so do two calls with them that are not refused and run to their ends
  module _ (budget budget' : ℕ) (e e' : Ended) (enough : rows step_width one.steps ≤ budget) (enough' : rows step_width two.steps ≤ budget')
      (z : first (whole_call one.tables one.steps one.room) ≡ 0) (z' : first (whole_call two.tables two.steps two.room) ≡ 0)
      (is : e ≡ all_done (steps_done one budget) (sweep one.steps (steps_done one budget) one.tables one.room))
      (is' : e' ≡ all_done (steps_done two budget') (sweep two.steps (steps_done two budget') two.tables two.room)) where
    each : (i : ℕ) → i < rows step_width one.steps → answer_to (m.there i) e' ≡ answer_to i e
    each i h =
        let inside : i < length (steps_of one) = rw (many one) h in
        let there_inside : m.there i < rows step_width two.steps = rw (many two) at (m.there_inside i inside) in
        tells two budget' e' enough' z' is' (m.there i) there_inside
        ∙ rw same_tables (same.same_answer i inside)
        ∙ sym (tells one budget e enough z is i h)

    both_done : SameEnd m.there e e'
    both_done = record {
      refused_alike = none_refused two budget' e' enough' z' is' ∙ sym (none_refused one budget e enough z is);
      same_answers = λ i h. each i (rw (all_steps one budget e enough z is) at h);
      same_bits = ends_in two budget' e' enough' z' is' ∙ rw same_tables same.same_end ∙ sym (ends_in one budget e enough z is);
      same_done = all_steps two budget' e' enough' z' is' ∙ as_many ∙ sym (all_steps one budget e enough z is);
      same_refused = refuses two budget' e' enough' z' is' ∙ rw same_tables (same.same_count is_refused) ∙ sym (refuses one budget e enough z is);
    }

-- the checks find the same
alike : (one two : Lent) → Rearranged one two
    → first (whole_call two.tables two.steps two.room) ≡ first (whole_call one.tables one.steps one.room)
alike one two m =
    rw m.same_tables
    (ap first (checked_alike one.tables one.steps one.room two.steps two.room (as_many one two m.same_tables m.matching)
    m.steps_whole m.room_whole m.room_enough (λ test. same_any test (steps_of one) (steps_of two) m.matching)))

pub demand3 : Demand3
unfolding nothing_done
demand3 one two budget budget' e e' so so' enough enough' m = by_case (how one budget e so) (how two budget' e' so')
  where
    by_case : How one budget e so → How two budget' e' so' → SameEnd m.matching.there e e'
    by_case (refused_by nz is) (refused_by nz' is') = record {
      refused_alike = ap (λ (x : Ended). x.refusal) is' ∙ alike one two m ∙ sym (ap (λ (x : Ended). x.refusal) is);
      same_answers = λ i h. absurd (omega (arith, ap (λ (x : Ended). x.done) is));
      same_bits = ap (λ (x : Ended). x.tables) is' ∙ m.same_tables ∙ sym (ap (λ (x : Ended). x.tables) is);
      same_done = ap (λ (x : Ended). x.done) is' ∙ sym (ap (λ (x : Ended). x.done) is);
      same_refused = ap (λ (x : Ended). x.refused) is' ∙ sym (ap (λ (x : Ended). x.refused) is);
    }
    by_case (refused_by nz is) (all_done_lem z is') = absurd (nz (sym (alike one two m) ∙ z))
    by_case (all_done_lem z is) (refused_by nz' is') = absurd (nz' (alike one two m ∙ z))
    by_case (all_done_lem z is) (all_done_lem z' is') = both_done one two m.same_tables m.matching budget budget' e e' enough enough' z z' is is'

pub demand3_accepted : Demand3Accepted
unfolding nothing_done
demand3_accepted one two budget budget' e e' so so' ok ok' same_tables enough enough' m = by_case (how one budget e so) (how two budget' e' so')
  where
    by_case : How one budget e so → How two budget' e' so' → SameEnd m.there e e'
    by_case (refused_by nz is) _ = absurd (nz (sym (ap (λ (x : Ended). x.refusal) is) ∙ ok))
    by_case (all_done_lem z is) (refused_by nz' is') = absurd (nz' (sym (ap (λ (x : Ended). x.refusal) is') ∙ ok'))
    by_case (all_done_lem z is) (all_done_lem z' is') = both_done one two same_tables m budget budget' e e' enough enough' z z' is is'
