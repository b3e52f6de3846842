-- What was read is what is carried, and nothing was written.
use Rattle.std.proofs.Common.{◌≡◌}
use Rattle.text_program.specs.Tables.{cells_of}
use Rattle.sheet.proofs.Streams.{Fed}
use Rattle.sheet.proofs.answer_all.Given as goal

abbrev pub invariant-loop : goal.invariant-loop
invariant-loop g l =
    Fed (g.R.Read.remaining l.fn.from) (g.R.Read.remaining l.from) l.k l.night.line (cells_of l.night)
    × (g.W.Write.contents l.to ≡ g.W.Write.contents l.fn.to)
