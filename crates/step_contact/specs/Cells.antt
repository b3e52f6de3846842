-- Document 01, "Tables": the cells of a point that a step may store, as numbers of its record: what stands in one, and the point with
-- another float there. Assumes nothing.
use Rattle.std.specs.Prelude.{Float}
use Rattle.base_places.specs.declared.Cell.{Cell}
use Rattle.base_places.specs.declared.Cell.TheVariants.{NormalImpulse, TangentImpulse}
use Rattle.elem_tangent.specs.Tangent.{tangent_with}
use Rattle.elem_normal.specs.Normal.{normal_with}
use Rattle.step_contact.specs.declared.ContactPoint.{ContactPoint}

abbrev pub in_cell : Cell → ContactPoint → Float
in_cell NormalImpulse p = p.normal_part.impulse
in_cell TangentImpulse p = p.tangent_part.impulse

unfoldable pub with_cell : Cell → ContactPoint → Float → ContactPoint
with_cell NormalImpulse p x = record { normal_part = normal_with p.normal_part x; tangent_part = p.tangent_part }
with_cell TangentImpulse p x = record { normal_part = p.normal_part; tangent_part = tangent_with p.tangent_part x }
