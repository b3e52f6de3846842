-- `text_rows::i_line` meets its contract. The row, as it is lent. Assumes nothing.
use Rattle.text_rows.proofs.Tables.{i_written}
use Rattle.text_rows.proofs.i_line.Goals as goal

pub returns : goal.returns
returns c = search i_written
