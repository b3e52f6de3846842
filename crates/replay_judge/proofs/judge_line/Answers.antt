-- `replay_judge::judge_line` meets its contract. The line goes on to the portion's end, or ends before it. Assumes nothing.
use Rattle.text_read.proofs.Going.{line_free}
use Rattle.replay_judge.proofs.Fed.{ends, goes_on}
use Rattle.replay_judge.proofs.judge_line.Goals as goal

pub go_on-judge-requires : goal.go_on-judge-requires
go_on-judge-requires c = line_free _ _ _ (c.run_end-end.ensures.0)

pub returns-then-end-s-clause-turns : goal.returns-then-end-s-clause-turns
returns-then-end-s-clause-turns c =
    goes_on _ _ _ _ _ _ _ _ (c.requires.1) (c.run_end-end.ensures.0) (c.go_on-judge.ensures) (c.requires.0) (c.if-end-s.true)

pub returns-clause-turns : goal.returns-clause-turns
returns-clause-turns c =
    ends _ _ _ _ _ _ _ _ (c.requires.1) (c.run_end-end.ensures.0) (c.go_on-judge.ensures) (c.if-end-s.false) (c.run_end-end.ensures.2) (c.end_line-judge.ensures.ends)
