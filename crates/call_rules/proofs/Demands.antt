-- Demand 1, that room past the steps done stays, and how large what is told can be, of whatever meets the call's contract. (Demand 3 is in Reordered.antt.) Assumes nothing.
use Prim.Native.Nat.{ℕ, suc, ◌≤◌, ◌<◌}
use native.Mathlib.Omega.{arith}
use mathlib.Core.Bool.{Bool, true, false}
use mathlib.Core.Logic.{◌≢◌}
use mathlib.Core.Path.{◌≡◌, refl, sym, ◌∙◌, ap}
use lib.Dec.{eqb}
use borrow.Author.Tests.{eqb-false, eqb-true}
use Rattle.base_places.specs.Places.{answer_width, step_width}
use Rattle.base_words.proofs.Pick.{take, pass}
use Rattle.base_refusals.specs.Refusals.{first}
use Rattle.base_refusals.proofs.Exact.{exactly}
use Rattle.base_rows.specs.Rows.{row, rows}
use Rattle.list_cells.specs.Cells.{answer_of}
use Rattle.list_tables.specs.Tables.{step_at}
use Rattle.list_cells.specs.declared.Answer.{Answer}
use Rattle.list_rules.specs.Sweep.{Swept, Tables, step_on, sweep}
use Rattle.list_rules.proofs.Steps.{refused_keeps}
use Rattle.list_rules.proofs.Exact.{exact_on_tables}
use Rattle.list_rules.proofs.Few.{told_few}
use Rattle.list_rules.proofs.Going.{few_refused}
use Rattle.list_rules.proofs.Room.{answer_read, room_past, tables_are}
use Rattle.list_checks.specs.Checks.{whole_call}
use Rattle.list_checks.proofs.Passed as passed
use Rattle.call_rules.specs.Call.{Ended, Lent, all_done, nothing_done, one_by_one, steps_done}
use Rattle.call_rules.specs.Few.{FewTold, TellsFew}
use Rattle.call_rules.specs.Room.{KeepsRoom, RoomKept}
use Rattle.call_rules.proofs.Before.{before_more}
use Rattle.call_rules.specs.Demands.{Demand2, MeetsDemand1, before, number_of}

-- how a call ended: refused by its number, or all done
module _ (lent : Lent) (budget : ℕ) (e : Ended) (so : Demand2 lent budget e) where
  abbrev pub number : ℕ
  number = first (whole_call lent.tables lent.steps lent.room)

  abbrev pub done : ℕ
  done = steps_done lent budget

  abbrev pub left : Swept
  left = sweep lent.steps done lent.tables lent.room

  pub data How : Type 0 where
    refused_by : number ≢ 0 → e ≡ nothing_done number lent → How
    all_done_lem : number ≡ 0 → e ≡ all_done done left → How

  pub how : How
  unfolding one_by_one
  how = by_case (eqb number 0) refl
    where
      by_case : (b : Bool) → eqb number 0 ≡ b → How
      by_case true z = all_done_lem (eqb-true number 0 z) (so ∙ sym (take _ z refl))
      by_case false nz = refused_by (eqb-false number 0 nz) (so ∙ sym (pass _ nz refl))

  -- its refusal is the first of the whole call's conditions
  pub is_number : How → e.refusal ≡ number
  unfolding nothing_done all_done
  is_number (refused_by nz is) = ap (λ (x : Ended). x.refusal) is
  is_number (all_done_lem z is) = ap (λ (x : Ended). x.refusal) is ∙ sym z

  -- a step that was done: nothing was refused, the step is among those, and its row of the room has its answer
  module _ (i : ℕ) (among : i < e.done) where
    not_refused : How → e ≡ all_done done left
    unfolding nothing_done
    not_refused (refused_by nz is) = let none : e.done ≡ 0 = ap (λ (x : Ended). x.done) is in absurd (omega arith)
    not_refused (all_done_lem z is) = is

    passed_all : How → number ≡ 0
    unfolding nothing_done
    passed_all (refused_by nz is) = let none : e.done ≡ 0 = ap (λ (x : Ended). x.done) is in absurd (omega arith)
    passed_all (all_done_lem z is) = z

    pub number_is : number_of i e ≡ (step_on (step_at lent.steps i) (before lent i)).answer.number
    unfolding all_done before
    number_is =
        let is = not_refused how in
        let room : rows step_width lent.steps ≤ rows answer_width lent.room = passed.room_enough lent.tables lent.steps lent.room (passed_all how) in
        let many : e.done ≡ done = ap (λ (x : Ended). x.done) is in
        ap (λ (x : Ended). (answer_of (row answer_width i x.room)).number) is
        ∙ ap (λ (a : Answer). a.number) (answer_read lent.steps lent.tables lent.room done i (omega arith) (omega arith) (omega arith))
        ∙ ap (λ (t : Tables). (step_on (step_at lent.steps i) t).answer.number) (tables_are lent.steps lent.tables lent.room i)

    pub in_list : i < rows step_width lent.steps
    unfolding all_done
    in_list = let many : e.done ≡ done = ap (λ (x : Ended). x.done) (not_refused how) in omega arith

    next : before lent (suc i) ≡ (step_on (step_at lent.steps i) (before lent i)).after
    next = before_more lent i in_list

  wrote_nothing : How → e.refusal ≢ 0 → e ≡ nothing_done e.refusal lent
  unfolding all_done
  wrote_nothing (refused_by nz is) ne = is ∙ ap (λ (n : ℕ). nothing_done n lent) (sym (is_number (refused_by nz is)))
  wrote_nothing (all_done_lem z is) ne = absurd (ne (ap (λ (x : Ended). x.refusal) is))

  went_on : How → e.refusal ≡ 0 → (e.done ≡ steps_done lent budget) × (e.tables ≡ before lent e.done)
  unfolding all_done before
  went_on (refused_by nz is) z = absurd (nz (sym (is_number (refused_by nz is)) ∙ z))
  went_on (all_done_lem z is) _ =
      let many : e.done ≡ done = ap (λ (x : Ended). x.done) is in
      (many, ap (λ (x : Ended). x.tables) is ∙ rw many (tables_are lent.steps lent.tables lent.room done))

  past_done : How → RoomKept lent e
  unfolding nothing_done all_done
  past_done (refused_by nz is) i h = ap (λ (x : Ended). row answer_width i x.room) is
  past_done (all_done_lem z is) i h =
      let many : e.done ≡ done = ap (λ (x : Ended). x.done) is in
      ap (λ (x : Ended). row answer_width i x.room) is ∙ room_past lent.steps lent.tables lent.room done i (omega arith) (omega arith)

  few : How → FewTold e
  unfolding nothing_done all_done
  few (refused_by nz is) =
      let none : e.done ≡ 0 = ap (λ (x : Ended). x.done) is in
      record { answers = λ j h. absurd (omega arith); refused = omega (arith, ap (λ (x : Ended). x.refused) is) }
  few (all_done_lem z is) =
      let room : rows step_width lent.steps ≤ rows answer_width lent.room = passed.room_enough lent.tables lent.steps lent.room z in
      let many : e.done ≡ done = ap (λ (x : Ended). x.done) is in
      record {
        answers = λ j h. rw (ap (λ (x : Ended). x.room) is) (told_few lent.steps lent.tables lent.room done (omega arith) (omega arith) j (omega arith));
        refused = rw (ap (λ (x : Ended). x.refused) is, many) (few_refused lent.steps lent.tables lent.room done);
      }

pub demand1 : MeetsDemand1
demand1 lent budget e so =
    let ended = how lent budget e so in
    record {
      the_whole_call = rw (is_number lent budget e so ended)
          (exactly (whole_call lent.tables lent.steps lent.room) (passed.distinct_numbers lent.tables lent.steps lent.room));
      each_step = λ i h. rw (number_is lent budget e so i h) (exact_on_tables (step_at lent.steps i) (before lent i));
      refused_call = wrote_nothing lent budget e so ended;
      refused_step = λ i h ne.
          next lent budget e so i h
          ∙ refused_keeps (step_at lent.steps i) (before lent i) (λ z. ne (number_is lent budget e so i h ∙ z));
      goes_on = went_on lent budget e so ended;
    }

pub room_kept : KeepsRoom
room_kept lent budget e so = past_done lent budget e so (how lent budget e so)

pub few_told : TellsFew
few_told lent budget e so = few lent budget e so (how lent budget e so)
