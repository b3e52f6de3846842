-- `step_kinds::routine` meets its contract. The last arm has no line in the table. Assumes nothing.
use native.Mathlib.Omega.{arith}
use Rattle.step_kinds.specs.Table.{kinds}
use Rattle.step_kinds.proofs.NoKind.{does_nothing}
use Rattle.step_kinds.proofs.routine.Goals as goal

pub returns-in-5-to-65535 : goal.returns-in-5-to-65535
unfolding kinds
returns-in-5-to-65535 c = does_nothing c.args.kind (omega arith) _ _
