-- The velocities of two bodies are right where each is. Assumes nothing.
use mathlib.Core.Path.{◌≡◌}
use Rattle.elem_velocity.specs.declared.SolverVel.{SolverVel}
use Rattle.elem_velocity.specs.declared.Vels.{Vels}

abbrev pub vels : SolverVel → SolverVel → Vels
vels v1 v2 = record { v1 = v1; v2 = v2 }

pub both_right : {v1 v2 w1 w2 : SolverVel} → v1 ≡ w1 → v2 ≡ w2 → vels v1 v2 ≡ vels w1 w2
both_right p q = cc
