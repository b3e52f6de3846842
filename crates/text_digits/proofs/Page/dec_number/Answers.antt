-- `text_digits::Page::dec_number` meets its contract. Its digits, from where writing starts. Assumes nothing.
use Rattle.text_digits.proofs.Written.{dec_alone}
use Rattle.text_digits.proofs.Page.dec_number.Goals as goal

pub returns : goal.returns
returns c = search dec_alone
