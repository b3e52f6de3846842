-- `replay_judge::Judge::read` meets its contract. The buffer has room for what a portion tells. Assumes nothing.
use Rattle.replay_judge.proofs.Fed.{whole_told}
use borrow.Author.Rules.{rules}
use Rattle.replay_judge.proofs.Judge.read.Goals as goal

pub returns : goal.returns
returns c =
    record {
      read = search (whole_told, rules);
      at_le_told_bytes = search rules;
    }
