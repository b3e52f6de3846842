-- Every cell stands among its point's floats. Assumes nothing.
use Prim.Native.Nat.{◌<◌}
use lib.Dec.{lit<}
use Rattle.base_places.specs.Places.{place, point_width}
use Rattle.base_places.specs.declared.Cell.{Cell}
use Rattle.base_places.specs.declared.Cell.TheVariants.{NormalImpulse, TangentImpulse}

pub cell_fits : (c : Cell) → place c < point_width
cell_fits NormalImpulse = lit< tt
cell_fits TangentImpulse = lit< tt
