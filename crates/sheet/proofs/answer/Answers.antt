-- `sheet::answer` meets its contract. The end is announced, and what was carried answered. Assumes nothing.
use Rattle.sheet.proofs.Handed.{ended_well}
use Rattle.sheet.proofs.answer.Goals as goal

pub returns-clause-once : goal.returns-clause-once
returns-clause-once c = ended_well c.end-reader.ensures.room c.end-reader.ensures.ends c.answer.ensures.answered
