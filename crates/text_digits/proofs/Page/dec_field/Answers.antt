-- `text_digits::Page::dec_field` meets its contract. The tab, then the number. Assumes nothing.
use Rattle.text_digits.proofs.Written.{dec_after}
use Rattle.text_digits.proofs.Page.dec_field.Goals as goal

pub returns : goal.returns
returns c = search dec_after
