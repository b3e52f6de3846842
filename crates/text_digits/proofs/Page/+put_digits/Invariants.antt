-- `text_digits::Page::put_digits` meets its contract. No digit, one, or those before and the last. The measure is k. Assumes nothing.
use Rattle.text_digits.proofs.Page.+put_digits.Given as goal

abbrev pub decreases-put_digits : goal.decreases-put_digits
decreases-put_digits l = l.k
