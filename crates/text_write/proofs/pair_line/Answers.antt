-- `text_write::pair_line` meets its contract. Field after field. Assumes nothing.
use Rattle.text_write.proofs.Lines.{pair_written}
use Rattle.text_write.proofs.pair_line.Goals as goal

pub returns : goal.returns
returns c = search pair_written
