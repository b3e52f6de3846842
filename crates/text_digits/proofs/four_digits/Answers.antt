-- `text_digits::four_digits` meets its contract. Digit after digit. Assumes nothing.
use Rattle.text_digits.proofs.Written.{four_is}
use Rattle.text_digits.proofs.four_digits.Goals as goal

pub returns : goal.returns
returns c = search four_is
