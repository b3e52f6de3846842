-- `replay_judge::judge_portion` meets its contract. One line after the other. Assumes nothing.
use native.Mathlib.Omega.{arith}
use mathlib.Core.Path.{refl}
use Rattle.text_digits.proofs.Then.{still}
use Rattle.replay_judge.proofs.Fed.{none_fed, one_fed}
use Rattle.replay_judge.proofs.judge_portion.Goals as goal

pub loop-i-init : goal.loop-i-init
loop-i-init c = (omega arith, record { same = refl; long = refl }, search none_fed)

pub loop-i-preserved : goal.loop-i-preserved
loop-i-preserved c = (c.judge_line-t.ensures.turns.within, still c.loop-i.invariant.1 c.judge_line-t.ensures.same, search one_fed)
