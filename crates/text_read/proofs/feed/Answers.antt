-- `text_read::feed` meets its contract. Turn after turn. Assumes nothing.
use borrow.Author.Rules.{rules}
use Rattle.text_read.proofs.Going.{bad_fed, next_fed, over_fed}
use Rattle.text_read.proofs.feed.Goals as goal

pub returns-then-is_some-clause-fed : goal.returns-then-is_some-clause-fed
returns-then-is_some-clause-fed c = search bad_fed

pub loop-i-preserved : goal.loop-i-preserved
loop-i-preserved c =
    record { within = search rules; long = search rules; same = search rules; so_far = search next_fed }

pub returns-clause-fed : goal.returns-clause-fed
returns-clause-fed c = search over_fed
