-- `text_digits::Page::put_digits` meets its contract. No digit, one, or those before and the last. The measure is k. Assumes nothing.
use Rattle.text_digits.proofs.Written.{no_dec, put_one, put_dec}
use Rattle.text_digits.proofs.Page.+put_digits.Goals as goal

pub returns-then-k-eq0 : goal.returns-then-k-eq0
returns-then-k-eq0 t c = search no_dec

pub returns-then-n-lt10 : goal.returns-then-n-lt10
returns-then-n-lt10 t c = search put_one

pub returns-else-n-lt10 : goal.returns-else-n-lt10
returns-else-n-lt10 t c = search put_dec
