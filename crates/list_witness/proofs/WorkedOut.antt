-- The feet of specs/Witness.antt and specs/Twice.antt, worked out: every definition is opened, down to the float operations.
-- Assumes nothing.
use mathlib.Core.List.{[], ◌∷◌}
use mathlib.Core.Path.{◌≡◌, refl}
use lib.Ieee.{add, le, lt, mul, ne, neg, of_bits, sub}
use Rattle.elem_leaves.specs.Finite.{finite}
use Rattle.elem_leaves.specs.Floats.{half, one, zero}
use Rattle.elem_leaves.specs.Leaves.{dot, max0, tangent}
use Rattle.elem_velocity.specs.Velocity.{dvel, moved, push, rest}
use Rattle.elem_impulse.specs.Point.{normal_impulse}
use Rattle.elem_normal.specs.Normal.{normal, normal_moved, normal_warm, normal_with}
use Rattle.step_kinds.specs.Kinds.{at_point, normal_at, normal_left, over_points, turn, warm_normal_at, warm_start, warm_tangent_at}
use Rattle.step_kinds.specs.Table.{kind_of, kinds, points_for, routine, stores}
use Rattle.step_shape.specs.Shape.{kind_above, pair_of_one, wrong_bodies, wrong_count}
use Rattle.step_values.specs.Values.{below_count, finite_head, finite_normal, finite_point, finite_tangent, finite_vel, floor_moves, head_out, lost_impulse, not_finite, not_finite_vels, out_of_range, point_out, unwritable}
use Rattle.step_rules.specs.Step.{as_read, as_written, asked, checks, conditions, first_or, holds_of, reads, step, tried, writes, written_vels}
use Rattle.base_rows.specs.Rows.{on_part, on_row, part, read_row}
use Rattle.list_tables.specs.Tables.{contact_at, contact_of, head_of, normal_of, point_of, tangent_of, vel_at, vel_of}
use Rattle.list_cells.specs.Cells.{answer_of, put_cells, put_contact, put_if, put_impulses, put_point, put_vel, vel_row}
use Rattle.base_order.specs.OneByOne.{answers, any, finish}
use Rattle.list_rules.specs.Sweep.{answered, its_contact, if_there, new_bodies, new_floats, outcome, step_on, vels_at}
use Rattle.list_witness.specs.Witness.{falling, foot, heel, minus_half, toe}
use Rattle.elem_tangent.specs.Tangent.{tangent_warm}
use Rattle.list_witness.specs.Twice.{TwiceTheSame}

pub worked_out : (finish step_on (heel ∷ toe ∷ []) falling ≡ foot zero minus_half half half)
    × (finish step_on (toe ∷ heel ∷ []) falling ≡ foot zero zero zero one)
    × TwiceTheSame
unfolding any finish answers answer_of step_on answered outcome its_contact new_bodies new_floats if_there vels_at contact_at read_row contact_of head_of point_of normal_of
    tangent_of part vel_at vel_of step tried conditions asked checks holds_of first_or as_read reads as_written written_vels writes kind_above wrong_bodies wrong_count pair_of_one not_finite not_finite_vels
    finite_head finite_normal finite_tangent finite_point finite_vel below_count out_of_range head_out point_out floor_moves unwritable lost_impulse finite
    routine points_for stores kind_of kinds over_points turn at_point normal_at normal_left normal normal_moved normal_impulse normal_with warm_start warm_normal_at warm_tangent_at normal_warm tangent_warm
    tangent dvel dot max0 push moved rest put_vel put_impulses put_contact put_point put_cells put_if on_row on_part vel_row of_bits neg add sub mul lt le ne
worked_out = (refl, refl, refl)
