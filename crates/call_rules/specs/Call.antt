-- Document 01, "Numbers that refuse" and "Tables": a call, by its plain one-by-one definition. Assumes nothing.
use Rattle.std.specs.Prelude.{ℕ, min, List, eqb}
use Rattle.base_places.specs.Places.{step_width}
use Rattle.base_words.specs.Choice.{if◌then◌otherwise◌}
use Rattle.base_refusals.specs.Refusals.{first}
use Rattle.base_rows.specs.Rows.{rows}
use Rattle.list_rules.specs.Sweep.{Swept, Tables, sweep}
use Rattle.list_checks.specs.Checks.{whole_call}

-- what is lent to a call: the tables, the list of steps, the room for answers
pub record Lent : Type 0 where
  pub tables : Tables
  pub steps : List ℕ
  pub room : List ℕ

abbrev pub lend : Tables → List ℕ → List ℕ → Lent
lend t steps room = record { tables = t; steps = steps; room = room }

-- what a call leaves: its refusal, or 0; how many steps were done, and how many of them refused; all bodies, all contacts, all the room
pub record Ended : Type 0 where
  pub refusal : ℕ
  pub done : ℕ
  pub refused : ℕ
  pub tables : Tables
  pub room : List ℕ

abbrev pub end : ℕ → ℕ → ℕ → Tables → List ℕ → Ended
end refusal done refused t room = record { refusal = refusal; done = done; refused = refused; tables = t; room = room }

-- "whole call; nothing written", and it "reports no steps done"
unfoldable pub nothing_done : ℕ → Lent → Ended
nothing_done number lent = end number 0 0 lent.tables lent.room

-- "steps done is the smaller of budget and list length"
abbrev pub steps_done : Lent → ℕ → ℕ
steps_done lent budget = min budget (rows step_width lent.steps)

-- "otherwise steps done and the number of them refused"
unfoldable pub all_done : ℕ → Swept → Ended
all_done done w = end 0 done w.refused w.tables w.room

-- checks 1 to 4 over all that is lent, before any step; then the steps, one by one
unfoldable pub one_by_one : Lent → ℕ → Ended
one_by_one lent budget =
    let number = first (whole_call lent.tables lent.steps lent.room) in
    if eqb number 0
    then all_done (steps_done lent budget) (sweep lent.steps (steps_done lent budget) lent.tables lent.room)
    otherwise nothing_done number lent
