-- Demand 3 of lists of steps, on any tables whatsoever: the call's is `Demand3`. Proved in proofs/Reordering.antt. Assumes nothing.
use Rattle.std.specs.Prelude.{List, []}
use Rattle.list_tables.specs.Tables.{step_as}
use Rattle.list_tables.specs.declared.Step.{Step}
use Rattle.list_cells.specs.Cells.{answer_of}
use Rattle.list_cells.specs.declared.Answer.{Answer}
use Rattle.base_order.specs.Reordered.{Reordered, SameOutcome}
use Rattle.list_rules.specs.Sweep.{Tables, step_on}
use Rattle.list_sharing.specs.Sharing.{Shares}

-- what stands in for an answer past a list's end
abbrev pub no_answer : Answer
no_answer = answer_of []

abbrev pub ListsReordered : Type 0
ListsReordered =
    (xs ys : List Step) (t : Tables) (m : Reordered (Shares t) (step_as 0 0) xs ys) → SameOutcome step_on m.there no_answer xs ys t
