-- `text_fields::read_row` meets its contract. No numbers, no bits, a whole row, and a field that is left over. Assumes nothing.
use Rattle.text_fields.proofs.Rows.{left_over, no_bits, no_numbers, whole_row}
use Rattle.text_fields.proofs.read_row.Goals as goal

pub returns-in_err-middle : goal.returns-in_err-middle
returns-in_err-middle c = rw c.from_residual.ensures (search (no_numbers, c.in_err-middle.was))

pub returns-in_err-next : goal.returns-in_err-next
returns-in_err-next c = rw c.from_residual-in_err-next.ensures (search (no_bits, c.in_ok-middle.was, c.in_err-next.was))

pub returns-then-line-next : goal.returns-then-line-next
returns-then-line-next c = search (whole_row, c.in_ok-middle.was, c.in_ok-next.was)

pub returns-else-line-next : goal.returns-else-line-next
returns-else-line-next c = search (left_over, c.in_ok-middle.was, c.in_ok-next.was)
