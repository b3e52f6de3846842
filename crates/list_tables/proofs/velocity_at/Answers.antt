-- `list_tables::velocity_at` meets its contract. The floor, a row, no row. Assumes nothing.
use Rattle.list_tables.proofs.Velocities.{of_floor, of_no_row}
use Rattle.list_tables.proofs.velocity_at.Goals as goal

pub returns-then-body-eq-FLOOR : goal.returns-then-body-eq-FLOOR
returns-then-body-eq-FLOOR c = search of_floor

pub returns : goal.returns
returns c = search of_no_row
