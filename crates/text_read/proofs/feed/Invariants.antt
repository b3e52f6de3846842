-- `text_read::feed` meets its contract. Turn after turn. Assumes nothing.
use Prim.Native.Nat.{◌-◌, ◌≤◌}
use mathlib.Core.Path.{◌≡◌}
use lib.ListN.{length}
use Rattle.text_line.specs.Filled.{SameTables, lent_cells}
use Rattle.text_read.proofs.Going.{FedSome}
use Rattle.text_read.proofs.feed.Given as goal

abbrev pub invariant-loop-i : goal.invariant-loop-i
invariant-loop-i l = record {
  within : l.i ≤ length l.s;
  long : length l.line ≡ length l.initial.line;
  same : SameTables l.initial.tables l.tables;
  so_far : FedSome l.initial.t l.initial.line (lent_cells l.initial.tables) l.s l.t l.line (lent_cells l.tables) l.i;
}

abbrev pub decreases-loop-i : goal.decreases-loop-i
decreases-loop-i l = length l.s - l.i
