-- `text_fields::read_fields` meets its contract. What is left to read comes to the same at each turn. Assumes nothing.
use Rattle.text_fields.proofs.Turn.{all_got, stop, turn}
use Rattle.text_fields.proofs.read_fields.Goals as goal

pub returns-in_err-field : goal.returns-in_err-field
returns-in_err-field c = rw c.from_residual.ensures (search (stop, c.in_err-field.was))

pub loop-value-preserved : goal.loop-value-preserved
loop-value-preserved c = search (turn, c.in_ok-field.was)

pub returns : goal.returns
returns c = search all_got
