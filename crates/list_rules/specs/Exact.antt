-- Demand 1 of one step on the tables: its number is given exactly when its condition holds and no earlier one does. Proved in
-- proofs/Exact.antt. Assumes nothing.
use Rattle.base_refusals.specs.Refusals.{Exactly}
use Rattle.list_tables.specs.declared.Step.{Step}
use Rattle.list_rules.specs.Sweep.{Tables, of_step, step_on}

abbrev pub ExactOnTables : Type 0
ExactOnTables = (s : Step) (t : Tables) → Exactly (step_on s t).answer.number (of_step s t)
