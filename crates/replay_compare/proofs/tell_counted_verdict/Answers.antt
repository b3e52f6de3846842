-- `replay_compare::tell_counted_verdict` meets its contract. The output is the same, or a line differs. Assumes nothing.
use Rattle.replay_compare.proofs.Cases.{line_told, none_told}
use Rattle.replay_compare.proofs.tell_counted_verdict.Goals as goal

pub returns-then-n-eq0 : goal.returns-then-n-eq0
returns-then-n-eq0 c = search none_told

pub returns-else-n-eq0 : goal.returns-else-n-eq0
returns-else-n-eq0 c = search line_told
