-- What was read is what is carried, and what it tells was written.
use Rattle.std.proofs.Common.{◌-◌}
use Rattle.replay_judge.specs.Carried.{buffers_of}
use Rattle.replay.proofs.Streams.{Run}
use Rattle.replay.proofs.replay_all.Given as goal

abbrev pub invariant-loop : goal.invariant-loop
invariant-loop g l =
    Run (g.R.Read.remaining l.fn.from) (g.R.Read.remaining l.from) (g.W.Write.contents l.fn.to) (g.W.Write.contents l.to) l.j
    (buffers_of l.night) l.out (2251799813685248 - l.counter)
