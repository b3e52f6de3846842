-- `text_digits::Page::hex_field` meets its contract. The tab, then the digits. Assumes nothing.
use Rattle.text_digits.proofs.Written.{hex_after}
use Rattle.text_digits.proofs.Page.hex_field.Goals as goal

pub returns : goal.returns
returns c = search hex_after
