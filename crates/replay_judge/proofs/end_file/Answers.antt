-- `replay_judge::end_file` meets its contract. No last line, or one. Assumes nothing.
use Rattle.replay_judge.proofs.Finished.{last_line, no_last_line}
use borrow.Author.Rules.{rules}
use mathlib.Core.Path.{◌≡◌}
use Rattle.replay_compare.specs.declared.LineSoFar.TheVariants.{Empty}
use Rattle.replay_judge.proofs.end_file.Goals as goal

pub returns-then-eq-clause-tells : goal.returns-then-eq-clause-tells
returns-then-eq-clause-tells c = let e : c.args.j.line ≡ Empty = search rules in search no_last_line

pub returns-clause-tells : goal.returns-clause-tells
returns-clause-tells c = let e : c.args.j.line ≡ Empty → ⊥ = search rules in search last_line
