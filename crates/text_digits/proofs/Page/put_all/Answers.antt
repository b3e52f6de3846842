-- `text_digits::Page::put_all` meets its contract. The first bytes are written. Assumes nothing.
use Rattle.text_digits.proofs.Written.{put_more}
use Rattle.text_digits.proofs.Page.put_all.Goals as goal

pub loop-b-preserved : goal.loop-b-preserved
loop-b-preserved c = search put_more
