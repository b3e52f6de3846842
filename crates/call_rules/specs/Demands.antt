-- What the user demands of a call, of everything that it may leave: `lent` is what was lent to it, `e` what it left. The call's contract
-- is `Demand2`. `Demand1` holds of whatever meets it (`MeetsDemand1`, proved in proofs/Demands.antt), and `Demand3` and `Demand3Accepted` are proved of
-- any two that do (proofs/Reordered.antt). Assumes nothing.
-- What the bits are: in the logic a float that is no NaN is its 32 bits, and there is one NaN. So equal tables have equal bits but for the
-- payload of a cell that is a NaN in both. No done step writes a NaN (10); that a cell which no done step writes keeps its payload is
-- tested of the library (host/rust/tests/payloads.rs) and proved of the text program, which prints the pattern that was read (docs/LOOSE.md).
use Rattle.std.specs.Prelude.{ℕ, suc, ◌≤◌, ◌<◌, ◌≡◌, List, ◌≢◌, ltb}
use Rattle.base_places.specs.Places.{answer_width, step_width}
use Rattle.base_refusals.specs.Refusals.{Exactly}
use Rattle.base_rows.specs.Rows.{row, rows}
use Rattle.list_cells.specs.Cells.{answer_of}
use Rattle.list_cells.specs.declared.Answer.{Answer}
use Rattle.list_tables.specs.Tables.{step_as, step_at}
use Rattle.list_tables.specs.declared.Step.{Step}
use Rattle.base_order.specs.OneByOne.{finish}
use Rattle.base_order.specs.Reordered.{Reordered}
use Rattle.list_rules.specs.Sweep.{Tables, first_steps, of_step, step_on}
use Rattle.list_sharing.specs.Sharing.{Shares}
use Rattle.list_checks.specs.Checks.{uneven, whole_call}
use Rattle.call_rules.specs.Call.{Ended, Lent, nothing_done, one_by_one, steps_done}

-- the tables before step i, all steps before it done one by one
unfoldable pub before : Lent → ℕ → Tables
before lent i = finish step_on (first_steps lent.steps i) lent.tables

-- what step i was answered, in row i of the room: its number and its branch
abbrev pub answer_to : ℕ → Ended → Answer
answer_to i e = answer_of (row answer_width i e.room)

abbrev pub number_of : ℕ → Ended → ℕ
number_of i e = (answer_to i e).number

-- 1. "On all input a call ends and does nothing undefined" (that is what it means to meet a contract that asks nothing of the caller);
pub record Demand1 (lent : Lent) (budget : ℕ) (e : Ended) : Type 0 where
  -- "each refusal is given exactly when its number's condition holds and no earlier one does": the call's ..
  pub the_whole_call : Exactly e.refusal (whole_call lent.tables lent.steps lent.room)
  -- .. and each step's
  pub each_step : (i : ℕ) → i < e.done → Exactly (number_of i e) (of_step (step_at lent.steps i) (before lent i))
  -- "a refused call writes nothing"
  pub refused_call : e.refusal ≢ 0 → e ≡ nothing_done e.refusal lent
  -- "a refused step changes nothing"
  pub refused_step : (i : ℕ) → i < e.done → number_of i e ≢ 0 → before lent (suc i) ≡ before lent i
  -- "and the list goes on"
  pub goes_on : e.refusal ≡ 0 → (e.done ≡ steps_done lent budget) × (e.tables ≡ before lent e.done)

-- 2. "Every impulse and velocity .. is proved bit for bit against document 01's arithmetic": the refusal, the counts, all bodies, all
-- contacts and all the room are those of the plain one-by-one definition
abbrev pub Demand2 : Lent → ℕ → Ended → Type 0
Demand2 lent budget e = e ≡ one_by_one lent budget

-- so whatever meets 2 meets 1
abbrev pub MeetsDemand1 : Type 0
MeetsDemand1 = (lent : Lent) (budget : ℕ) (e : Ended) → Demand2 lent budget e → Demand1 lent budget e

-- all steps of a list, in its order
abbrev pub steps_of : Lent → List Step
steps_of lent = first_steps lent.steps (rows step_width lent.steps)

-- "Two lists of the same steps, in which any two steps that share a body or a contact stand in the same order". What two steps share is
-- read off the tables as lent
abbrev pub Matched : Lent → Lent → Type 0
Matched one two = Reordered (Shares one.tables) (step_as 0 0) (steps_of one) (steps_of two)

-- two such lists, lent with the same tables
pub record Rearranged (one two : Lent) : Type 0 where
  pub same_tables : two.tables ≡ one.tables
  pub matching : Matched one two
  -- numbers 1 and 4 look at the lists' and the rooms' sizes: each is a whole number of rows in both calls or in neither ..
  pub steps_whole : uneven step_width two.steps ≡ uneven step_width one.steps
  pub room_whole : uneven answer_width two.room ≡ uneven answer_width one.room
  -- .. and the room is enough for the list in both or in neither
  pub room_enough : ltb (rows answer_width two.room) (rows step_width two.steps) ≡ ltb (rows answer_width one.room) (rows step_width one.steps)

-- they "give each step the same answer and end in the same bits": e and e' are what the two calls left, and step i of the one stands at
-- `there i` in the other
pub record SameEnd (there : ℕ → ℕ) (e e' : Ended) : Type 0 where
  -- both are refused alike or not at all
  pub refused_alike : e'.refusal ≡ e.refusal
  -- each step has the same number and branch, wherever it stands
  pub same_answers : (i : ℕ) → i < e.done → answer_to (there i) e' ≡ answer_to i e
  -- all bodies and all contacts
  pub same_bits : e'.tables ≡ e.tables
  pub same_done : e'.done ≡ e.done
  pub same_refused : e'.refused ≡ e.refused

-- 3. Of any two such calls that run to their lists' ends; that each ends in the bits "of the one-by-one definition" is `Demand2`
abbrev pub Demand3 : Type 0
Demand3 =
    (one two : Lent) (budget budget' : ℕ) (e e' : Ended) → Demand2 one budget e → Demand2 two budget' e'
    → rows step_width one.steps ≤ budget
    → rows step_width two.steps ≤ budget' → (m : Rearranged one two) → SameEnd m.matching.there e e'

-- and with nothing asked of the sizes of lists and rooms: of any two calls that were both accepted
abbrev pub Demand3Accepted : Type 0
Demand3Accepted =
    (one two : Lent) (budget budget' : ℕ) (e e' : Ended) → Demand2 one budget e → Demand2 two budget' e' → e.refusal ≡ 0 → e'.refusal ≡ 0
    → two.tables ≡ one.tables → rows step_width one.steps ≤ budget → rows step_width two.steps ≤ budget'
    → (m : Matched one two) → SameEnd m.there e e'
