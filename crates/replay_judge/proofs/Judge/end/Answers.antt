-- `replay_judge::Judge::end` meets its contract. The buffer has room for what the end tells. Assumes nothing.
use Rattle.replay_judge.proofs.Finished.{finishes}
use borrow.Author.Rules.{rules}
use Rattle.replay_judge.proofs.Judge.end.Goals as goal

pub returns : goal.returns
returns c =
    record {
      finishes = finishes _ _ _ _ (search rules) (c.tell_end.ensures);
      upper_bound = search rules;
    }
