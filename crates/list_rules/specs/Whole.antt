-- A list's first steps are no more than it has: past its end there is no step. Proved in proofs/Going.antt. Assumes nothing.
use Rattle.std.specs.Prelude.{ℕ, min, List, ◌≡◌, length}
use Rattle.base_places.specs.Places.{step_width}
use Rattle.base_rows.specs.Rows.{rows}
use Rattle.list_rules.specs.Sweep.{first_steps}

abbrev pub StopsAtEnd : Type 0
StopsAtEnd = (steps : List ℕ) (n : ℕ) → length (first_steps steps n) ≡ min n (rows step_width steps)
