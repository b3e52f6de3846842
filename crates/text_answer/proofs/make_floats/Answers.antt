-- `text_answer::make_floats` meets its contract. The floats from number i on are still to be stored. Assumes nothing.
use mathlib.Core.Path.{refl}
use Rattle.text_answer.proofs.Floating.{begin, over, turn}
use borrow.Author.Rules.{rules}
use Rattle.text_answer.proofs.make_floats.Goals as goal

pub loop-i-init : goal.loop-i-init
loop-i-init c = (refl, search begin)

pub loop-i-preserved : goal.loop-i-preserved
loop-i-preserved c = (search rules, search turn)

pub returns : goal.returns
returns c = search over
