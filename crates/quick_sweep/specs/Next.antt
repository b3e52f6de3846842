-- What one step of the loop over the list comes to, for the function `next_step`, which no other crate sees. Assumes nothing.
use Rattle.std.specs.Prelude.{ℕ, List, ◌≡◌}
use Rattle.list_tables.specs.Tables.{step_at}
use Rattle.list_cells.specs.Cells.{put_answer}
use Rattle.list_cells.specs.declared.Answer.{Answer}
use Rattle.list_rules.specs.Sweep.{Tables, step_on}

-- step i of the list is done on the tables, and its answer stands in row i of the room
pub record StepDone (steps : List ℕ) (i : ℕ) (t : Tables) (room : List ℕ) (a : Answer) (t' : Tables) (room' : List ℕ) : Type 0 where
  pub done : record { answer = a; after = t' } ≡ step_on (step_at steps i) t
  pub told : room' ≡ put_answer room i a
