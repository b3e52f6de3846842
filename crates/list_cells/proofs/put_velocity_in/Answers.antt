-- `list_cells::put_velocity_in` meets its contract. The floor, or its row. Assumes nothing.
use Rattle.list_cells.proofs.Put.{vel_of_floor, vel_put}
use Rattle.list_cells.proofs.put_velocity_in.Goals as goal

pub returns-then-body-eq-FLOOR : goal.returns-then-body-eq-FLOOR
returns-then-body-eq-FLOOR c = search vel_of_floor

pub returns : goal.returns
returns c =
    let there = c.requires c.if-body-eq-FLOOR.false in
    search (vel_put, there)
