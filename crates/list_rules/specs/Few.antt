-- How large a step's answer can be: ten numbers refuse, six branches are told apart. Proved in proofs/Few.antt. Assumes nothing.
use Rattle.std.specs.Prelude.{◌≤◌}
use Rattle.list_tables.specs.declared.Step.{Step}
use Rattle.list_rules.specs.Sweep.{Tables, step_on}

abbrev pub FewAnswers : Type 0
FewAnswers = (s : Step) (t : Tables) → ((step_on s t).answer.number ≤ 10) × ((step_on s t).answer.branch ≤ 6)
