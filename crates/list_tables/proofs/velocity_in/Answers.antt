-- `list_tables::velocity_in` meets its contract. The floor, or its row. Assumes nothing.
use Rattle.list_tables.proofs.Velocities.{of_floor, of_row}
use Rattle.list_tables.proofs.velocity_in.Goals as goal

pub returns-then-body-eq-FLOOR : goal.returns-then-body-eq-FLOOR
returns-then-body-eq-FLOOR c = search of_floor

pub returns : goal.returns
returns c = let there = c.requires c.if-body-eq-FLOOR.false in search (of_row, there)
