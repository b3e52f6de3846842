-- `text_program::NightBuffers::end` meets its contract. Assumes nothing.
use Rattle.std.proofs.Common.{rules}
use Rattle.text_program.proofs.Whole.{program_room}
use Rattle.text_program.proofs.NightBuffers.end.Goals as goal

pub returns-clause-room : goal.returns-clause-room
returns-clause-room c = program_room _ _ _ _ (search rules) (search rules) (search rules) (search rules)
