use Rattle.text_line.proofs.Room.{tested}
use Rattle.text_line.proofs.is_full.Goals as goal

pub returns : goal.returns
returns c = search tested
