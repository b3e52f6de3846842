-- `replay::replay_all` meets its contract. Assumes nothing.
use Rattle.std.proofs.Common.{◌-◌, ◌+◌, arith, refl, rules}
use Rattle.replay.proofs.Streams.{nothing_left, run_begins, run_ends, run_on, well_written}
use Rattle.replay.proofs.replay_all.Goals as goal

pub loop-init : goal.loop-init
loop-init g c = run_begins _ _ _ _ _ c.begin-j.ensures

pub loop-preserved : goal.loop-preserved
loop-preserved g c =
    let some = c.in_ok-on.ensures in
    run_on _ c.loop.invariant some.once some.taken c.in_ok-write_told.ensures (search rules) (omega arith)

pub returns-then-not-on : goal.returns-then-not-on
returns-then-not-on g c =
    let some = c.in_ok-on.ensures in
    λ well. run_ends _ _ _ _ _
    (run_on (2251799813685248 - (c.loop.counter + 1)) c.loop.invariant some.once some.taken c.in_ok-write_told.ensures (search rules) (omega arith))
    (some.at_end (nothing_left _ _ _ (search rules) refl some.once.on)) c.end-k.ensures.finishes (well_written _ c.write_told-then-not-on.ensures well)
