-- The document's night and the empty text, worked out: every definition is opened, down to the float operations. Assumes nothing.
use mathlib.Core.List.{[], ◌∷◌}
use mathlib.Core.Path.{◌≡◌, refl, ◌∙◌, ap}
use lib.Ieee.{add, is_nan, le, lt, mul, ne, neg, of_bits, sub, to_bits}
use Rattle.base_refusals.specs.Refusals.{first}
use Rattle.base_rows.specs.Rows.{on_part, on_row, part, read_row}
use Rattle.base_order.specs.OneByOne.{answers, any, count, finish}
use Rattle.elem_leaves.specs.Finite.{finite}
use Rattle.elem_leaves.specs.Leaves.{dot, max0}
use Rattle.elem_velocity.specs.Velocity.{dvel, moved, push, rest}
use Rattle.elem_impulse.specs.Point.{normal_impulse}
use Rattle.elem_normal.specs.Normal.{normal, normal_moved, normal_with}
use Rattle.step_kinds.specs.Kinds.{at_point, normal_at, normal_left, over_points, turn}
use Rattle.step_kinds.specs.Table.{kind_of, kinds, points_for, routine, stores}
use Rattle.step_shape.specs.Shape.{kind_above, pair_of_one, wrong_bodies, wrong_count}
use Rattle.step_values.specs.Values.{below_count, finite_head, finite_normal, finite_point, finite_tangent, finite_vel, floor_moves, head_out, lost_impulse, not_finite, not_finite_vels, out_of_range, point_out, unwritable}
use Rattle.step_rules.specs.Step.{as_read, as_written, asked, checks, conditions, first_or, holds_of, reads, step, tried, writes, written_vels}
use Rattle.list_tables.specs.Tables.{contact_at, contact_of, head_of, normal_of, point_of, step_at, step_of, tangent_of, vel_at, vel_of}
use Rattle.list_cells.specs.Cells.{answer_row, put_answer, put_cells, put_contact, put_if, put_impulses, put_point, put_vel, vel_row}
use Rattle.list_rules.specs.Sweep.{answered, first_steps, if_there, its_contact, laid, new_bodies, new_floats, outcome, step_on, sweep, vels_at}
use Rattle.list_checks.specs.Checks.{faulty, some_faulty, some_uneven, too_many, whole_call, wrong_sizes}
use Rattle.call_rules.specs.Call.{all_done, nothing_done, one_by_one}
use Rattle.text_digits.specs.Bits.{printed}
use Rattle.text_digits.specs.Digits.{dec_bytes, dec_digits, dec_field, dec_of, digit_of, glyph, hex_bytes, hex_digits, hex_field, hex_of, number_from}
use Rattle.text_fields.specs.Fields.{ended, fields, onto, takes, then_bits, values}
use Rattle.text_fields.specs.Letters.{after_letter, letter_in, letter_of, line_letter, says}
use Rattle.text_line.specs.Night.{Night, blank, of_program}
use Rattle.text_line.specs.declared.Place.TheVariants.{Steps}
use Rattle.text_line.specs.Lines.{filled, full, lacks, ordered, put, read_letter, read_line}
use Rattle.text_read.specs.Text.{closed, feed, feeds, line_ended, reading, text_of, unread, whole_contacts}
use Rattle.text_write.specs.Lines.{each, joined, line}
use Rattle.text_rows.specs.Tables.{a_line, b_line, i_line, listing, point_line, points_of}
use Rattle.text_output.specs.Answer.{answer, called, floats_of, lent, lines, prints, written, zeros}
use Rattle.text_output.specs.Output.{output, output_of}
use Rattle.text_output.specs.Examples.{Examples, e_0_0, r_2, sample_night, sample_output, step_alone}

-- what the document's night says
abbrev night : Night
night = record {
  place = Steps;
  bodies = 0 ∷ 0xc000_0000 ∷ 0 ∷ [];
  numbers = 0 ∷ 65535 ∷ 1 ∷ [];
  floats =
      0 ∷ 0x3f80_0000 ∷ 0x3f80_0000 ∷ 0x3f80_0000 ∷ 0 ∷ 0 ∷ 0 ∷ 0 ∷ 0
      ∷ 0 ∷ 0 ∷ 0 ∷ 0 ∷ 0 ∷ 0 ∷ 0 ∷ 0x3f80_0000 ∷ 0x3f80_0000 ∷ 0
      ∷ 0 ∷ 0 ∷ 0 ∷ 0 ∷ 0 ∷ 0 ∷ 0 ∷ 0
      ∷ 0 ∷ 0 ∷ 0 ∷ 0 ∷ 0 ∷ 0 ∷ 0 ∷ 0 ∷ 0 ∷ 0
      ∷ 0 ∷ 0 ∷ 0 ∷ 0 ∷ 0 ∷ 0 ∷ 0 ∷ 0 ∷ [];
  steps = 0 ∷ 1 ∷ [];
}

-- and a step alone
abbrev alone : Night
alone = record { place = Steps; bodies = []; numbers = []; floats = []; steps = 0 ∷ 0 ∷ [] }

read : (text_of of_program sample_night ≡ reading [] 8 night) × (text_of of_program [] ≡ reading [] 1 blank) × (text_of of_program step_alone ≡ reading [] 2 alone)
unfolding text_of unread closed feeds feed line_ended whole_contacts blank of_program read_line read_letter ordered filled full lacks put line_letter letter_in letter_of fields onto
    says after_letter values then_bits takes ended dec_of hex_of number_from digit_of
read = (refl, refl, refl)

told : (answer night ≡ sample_output) × (answer blank ≡ e_0_0) × (answer alone ≡ r_2)
unfolding blank answer written called lent floats_of zeros one_by_one all_done nothing_done whole_call wrong_sizes too_many some_uneven some_faulty faulty first any sweep first_steps finish answers count laid step_at step_of
    step_on answered outcome its_contact new_bodies new_floats if_there vels_at contact_at read_row contact_of head_of point_of normal_of
    tangent_of part vel_at vel_of step tried conditions asked checks holds_of first_or as_read reads as_written written_vels writes kind_above wrong_bodies wrong_count pair_of_one not_finite not_finite_vels
    finite_head finite_normal finite_tangent finite_point finite_vel below_count out_of_range head_out point_out floor_moves unwritable lost_impulse finite
    routine points_for stores kind_of kinds over_points turn at_point normal_at normal_left normal normal_moved normal_impulse normal_with
    dvel dot max0 push moved rest put_vel put_impulses put_contact put_point put_cells put_if put_answer answer_row on_row on_part vel_row of_bits to_bits is_nan neg add sub mul lt le ne
    lines listing each a_line b_line i_line point_line points_of prints printed line joined dec_field dec_bytes dec_digits hex_field hex_bytes hex_digits glyph
told = (refl, refl, refl)

pub examples : Examples
unfolding output output_of
examples = record {
  sample = ap output_of read.0 ∙ told.0;
  empty = ap output_of read.1 ∙ told.1;
  refused = ap output_of read.2 ∙ told.2;
}
