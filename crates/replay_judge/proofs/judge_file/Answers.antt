-- `replay_judge::judge_file` meets its contract. The whole file as one portion, then the end. Assumes nothing.
use Rattle.replay_judge.proofs.Finished.{file_judged}
use Rattle.replay_judge.proofs.judge_file.Goals as goal

pub returns : goal.returns
returns c =
    file_judged _ _ _ _ (c.tell_end.ensures) (c.judge_portion-t.ensures.portion) (c.begin.ensures) (c.judge_portion-t.ensures.portion_len_bound)
