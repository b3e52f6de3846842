-- The statement of specs/Few.antt, and so what can stand in the room where the steps done were answered. Assumes nothing.
use Prim.Native.Nat.{ℕ, zero, suc, ◌+◌, ◌*◌, ◌/◌, ◌%◌, ◌≤◌, ◌<◌}
use native.Mathlib.Nat.{div-add-mod'}
use native.Mathlib.Omega.{arith}
use borrow.Author.Tests.{leb-true}
use mathlib.Core.Bool.{Bool, true, false, ◌&&◌}
use mathlib.Core.List.{List, [], ◌∷◌}
use mathlib.Core.Path.{◌≡◌, refl}
use lib.Dec.{leb, ltb}
use lib.ListN.{get_or}
use Rattle.base_places.specs.Places.{answer_width, body_width, floats_width, step_width}
use Rattle.base_words.specs.Choice.{if◌then◌otherwise◌}
use Rattle.base_words.proofs.Said.{all_l, all_r}
use Rattle.base_refusals.specs.Refusals.{Condition, first}
use Rattle.base_rows.specs.Rows.{row, rows}
use Rattle.base_rows.proofs.Parts.{part_at}
use Rattle.step_contact.specs.declared.Contact.{Contact}
use Rattle.step_rules.specs.Step.{Outcome, Refused, asked, branch, checks, conditions, step}
use Rattle.step_promises.proofs.Promises.{few_branches}
use Rattle.list_cells.specs.Cells.{answer_row}
use Rattle.list_tables.specs.declared.Step.{Step}
use Rattle.list_rules.specs.Few.{FewAnswers}
use Rattle.list_rules.specs.Sweep.{Tables, answered, if_there, its_contact, of_step, outcome, step_on, sweep, vels_at}
use Rattle.list_rules.proofs.Exact.{number_first}
use Rattle.list_rules.proofs.Room.{answer_row_lem}

-- no number of a list is above m
abbrev up_to : ℕ → List Condition → Bool
up_to m [] = true
up_to m (c ∷ cs) = leb c.number m && up_to m cs

first_few : (m : ℕ) (cs : List Condition) → up_to m cs ≡ true → first cs ≤ m
unfolding first
first_few m [] e = omega arith
first_few m (c ∷ cs) e =
    by_case c.holds (leb-true _ _ (all_l (leb c.number m) (up_to m cs) e)) (first_few m cs (all_r (leb c.number m) (up_to m cs) e))
  where
    by_case : (b : Bool) → c.number ≤ m → first cs ≤ m → (if b then c.number otherwise first cs) ≤ m
    by_case true h rest = h
    by_case false h rest = rest

few_numbers : (s : Step) (t : Tables) → first (of_step s t) ≤ 10
unfolding of_step conditions asked checks
few_numbers s t = first_few 10 (of_step s t) refl

branch_few : (s : Step) (t : Tables) → (step_on s t).answer.branch ≤ 6
unfolding step_on answered outcome if_there
branch_few s t =
    by_case (ltb s.contact (rows floats_width t.floats)) (step c s.kind (vels_at t.bodies c.head) (rows body_width t.bodies))
    (few_branches c s.kind (vels_at t.bodies c.head) (rows body_width t.bodies))
  where
    c : Contact
    c = its_contact s t

    by_case : (b : Bool) (o : Outcome) → branch o ≤ 6 → branch (if b then o otherwise Refused 2) ≤ 6
    by_case true o h = h
    by_case false o h = omega arith

pub few_answers : FewAnswers
few_answers s t = (rw (number_first s t) (few_numbers s t), branch_few s t)

-- the cells of the rows of steps done
row_few : (s : Step) (t : Tables) (k : ℕ) → get_or (answer_row (step_on s t).answer) k 0 ≤ 10
unfolding answer_row
row_few s t zero = (few_answers s t).0
row_few s t (suc zero) = omega (arith, (few_answers s t).1)
row_few s t (suc (suc k)) = omega arith

pub told_few : (steps : List ℕ) (t : Tables) (room : List ℕ) (n : ℕ) → n ≤ rows step_width steps → n ≤ rows answer_width room
    → (j : ℕ) → j < n * answer_width → get_or (sweep steps n t room).room j 0 ≤ 10
told_few steps t room n within fits j h =
    let all = (sweep steps n t room).room in
    let i = j / answer_width in
    let k = j % answer_width in
    let at : get_or (row answer_width i all) k 0 ≡ get_or all (i * answer_width + k) 0 = part_at (i * answer_width) answer_width all k 0 (omega arith) in
    rw (← div-add-mod' j answer_width, ← at, answer_row_lem steps t room n i (omega arith) within fits) (row_few _ _ k)
