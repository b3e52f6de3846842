-- `list_checks::largest` meets its contract. Both are the largest of the first i steps. Assumes nothing.
use mathlib.Core.Path.{◌≡◌}
use Rattle.list_checks.specs.LargestOf.{largest_of}
use Rattle.list_checks.proofs.largest.Given as goal

abbrev pub invariant-loop-i : goal.invariant-loop-i
invariant-loop-i l = (l.contact ≡ largest_of (λ s. s.contact) l.steps l.i) × (l.kind ≡ largest_of (λ s. s.kind) l.steps l.i)
