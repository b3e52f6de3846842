-- `sheet::answer_all` meets its contract. Assumes nothing.
use Rattle.std.proofs.Common.{refl, rules}
use Rattle.sheet.proofs.Streams.{all_written, fed_next, fed_none, nothing_read, well_written, zeros_room}
use Rattle.sheet.proofs.answer_all.Goals as goal

pub loop-init : goal.loop-init
loop-init g c = (fed_none _ _ _ _ c.begin-k.ensures (zeros_room _ c.zeros-night.ensures), refl)

pub loop-preserved : goal.loop-preserved
loop-preserved g c =
    let read = c.in_ok-on.ensures in
    (fed_next c.loop.invariant.0 read.once read.taken, c.loop.invariant.1)

pub returns-then-not-on : goal.returns-then-not-on
returns-then-not-on g c =
    let read = c.in_ok-on.ensures in
    λ ok. all_written _ _ _ _ _ (fed_next c.loop.invariant.0 read.once read.taken)
    (λ fine. read.at_end (nothing_read _ _ _ _ (search rules) refl read.once.on fine))
    c.answer-n.ensures.once c.loop.invariant.1 (well_written _ c.map_err.ensures.variant c.write_all.ensures.bytes ok)
