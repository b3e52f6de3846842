-- `replay_judge::end_input` meets its contract. The D, or one line more. Assumes nothing.
use Rattle.replay_judge.proofs.Following.{one_line_more}
use Rattle.replay_judge.proofs.InputEnd.{at_d}
use Rattle.replay_judge.proofs.end_input.Goals as goal

pub returns-then-holds_only : goal.returns-then-holds_only
returns-then-holds_only c =
    at_d _ _ _ _ _ c.holds_only.ensures c.if-holds_only.true c.end-k.ensures.room c.end-k.ensures.ends c.answer-len.ensures.answered

pub returns-else-holds_only : goal.returns-else-holds_only
returns-else-holds_only c = search one_line_more
