-- `quick_sweep::walk` meets its contract. After i steps the tables, the room and the count are those of the first i steps, the flags are right, and what was lent is lent still. Assumes nothing.
use Rattle.quick_step.specs.Trusted.{StillLent, tables_of}
use Rattle.quick_sweep.proofs.SoFar.{SoFar}
use Rattle.quick_sweep.proofs.walk.Given as goal

abbrev pub invariant-loop-i : goal.invariant-loop-i
invariant-loop-i l =
    SoFar l.steps (tables_of l.initial.near) l.initial.room (tables_of l.near) l.room l.flags l.i l.refused × StillLent l.initial.near l.near
