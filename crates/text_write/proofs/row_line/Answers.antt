-- `text_write::row_line` meets its contract. Field after field. Assumes nothing.
use Rattle.text_write.proofs.Lines.{line_written}
use Rattle.text_write.proofs.row_line.Goals as goal

pub returns : goal.returns
returns c = search line_written
