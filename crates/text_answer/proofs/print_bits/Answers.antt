-- `text_answer::print_bits` meets its contract. The first i numbers are printed. Assumes nothing.
use mathlib.Core.Path.{refl}
use Rattle.text_answer.proofs.Floating.{none_printed, print_one}
use borrow.Author.Rules.{rules}
use Rattle.text_answer.proofs.print_bits.Goals as goal

pub loop-i-init : goal.loop-i-init
loop-i-init c = (refl, none_printed _ _)

pub loop-i-preserved : goal.loop-i-preserved
loop-i-preserved c = (search rules, search print_one)
