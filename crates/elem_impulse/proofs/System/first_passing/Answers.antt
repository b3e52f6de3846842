-- `elem_impulse::System::first_passing` meets its contract. By what the four candidates ensure. Assumes nothing.
use Rattle.elem_impulse.specs.Block.{candidates, kept}
use Rattle.elem_impulse.proofs.First.{chosen}
use Rattle.elem_impulse.proofs.System.first_passing.Goals as goal

pub returns : goal.returns
unfolding candidates kept
returns c = search chosen
