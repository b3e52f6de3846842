-- `replay_judge::judge_portion` meets its contract. One line after the other. Assumes nothing.
use Prim.Native.Nat.{◌-◌, ◌≤◌}
use lib.ListN.{length}
use Rattle.text_digits.specs.Wrote.{SameBuffer}
use Rattle.replay_judge.specs.Carried.{buffers_of}
use Rattle.replay_judge.proofs.Fed.{FirstFed}
use Rattle.replay_judge.proofs.judge_portion.Given as goal

abbrev pub invariant-loop-i : goal.invariant-loop-i
invariant-loop-i l =
    (l.i ≤ length l.portion) × SameBuffer l.initial.page l.page
    × FirstFed l.initial.judge (buffers_of l.initial.input) l.initial.out l.initial.page.out.now l.portion l.i l.judge l.page.at
    (buffers_of l.input) l.out l.page.out.now

abbrev pub decreases-loop-i : goal.decreases-loop-i
decreases-loop-i l = length l.portion - l.i
