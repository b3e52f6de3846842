-- Document 01, "Tables": what the rows of the lent stretches say. A row that a table does not have reads as zero. Assumes nothing.
use Rattle.std.specs.Prelude.{ℕ, List, Float, get_or}
use Rattle.std.specs.Float.{nan}
use Rattle.base_places.specs.Places.{accumulator_place, body_width, floats_width, head_width, impulse_place, normal_width, numbers_width, point_place, point_width, step_width, tangent_width}
use Rattle.base_words.specs.Choice.{if◌then◌otherwise◌}
use Rattle.elem_leaves.specs.Leaves.{vec}
use Rattle.elem_velocity.specs.Velocity.{rest}
use Rattle.elem_velocity.specs.declared.SolverVel.{SolverVel}
use Rattle.elem_tangent.specs.declared.ContactConstraintTangentPart.{ContactConstraintTangentPart}
use Rattle.elem_normal.specs.declared.ContactConstraintNormalPart.{ContactConstraintNormalPart}
use Rattle.step_contact.specs.Contact.{contact_zero, is_floor}
use Rattle.step_contact.specs.declared.Contact.{Contact}
use Rattle.step_contact.specs.declared.ContactHead.{ContactHead}
use Rattle.step_contact.specs.declared.ContactPoint.{ContactPoint}
use Rattle.base_rows.specs.Rows.{part, read_row}
use Rattle.list_tables.specs.declared.Step.{Step}

-- the float at place i of a row, which has it
abbrev pub at : List Float → ℕ → Float
at l i = get_or l i nan

-- A body has velocity x, y and angular w
unfoldable pub vel_of : List Float → SolverVel
vel_of l = record { linear = vec (at l 0) (at l 1); angular = at l 2 }

-- Body number 65535 is the floor: it reads as zero velocity; so does a number that the table does not have
unfoldable pub vel_at : List Float → ℕ → SolverVel
vel_at bodies body = if is_floor body then rest otherwise read_row body_width body vel_of rest bodies

-- Each contact: two body numbers, point count; dir, im1, im2 (two floats each), friction, k12, flag
unfoldable pub head_of : List ℕ → List Float → ContactHead
head_of numbers l = record {
  body1 = get_or numbers 0 0;
  body2 = get_or numbers 1 0;
  count = get_or numbers 2 0;
  dir1 = vec (at l 0) (at l 1);
  im1 = vec (at l 2) (at l 3);
  im2 = vec (at l 4) (at l 5);
  friction = at l 6;
  k12 = at l 7;
  flag = at l 8;
}

-- .. a normal part (torque1, torque2, ii1, ii2, rhs, impulse, accumulator, r, cfm, seed)
unfoldable pub normal_of : List Float → ContactConstraintNormalPart
normal_of l = record {
  torque_dir1 = at l 0;
  torque_dir2 = at l 1;
  ii_torque_dir1 = at l 2;
  ii_torque_dir2 = at l 3;
  rhs = at l 4;
  impulse = at l impulse_place;
  impulse_accumulator = at l accumulator_place;
  r = at l 7;
  cfm_factor = at l 8;
  seed = at l 9;
}

-- .. and a tangent part (the first eight of these)
unfoldable pub tangent_of : List Float → ContactConstraintTangentPart
tangent_of l = record {
  torque_dir1 = at l 0;
  torque_dir2 = at l 1;
  ii_torque_dir1 = at l 2;
  ii_torque_dir2 = at l 3;
  rhs = at l 4;
  impulse = at l impulse_place;
  impulse_accumulator = at l accumulator_place;
  r = at l 7;
}

-- for each of two points
unfoldable pub point_of : List Float → ContactPoint
point_of l = record {
  normal_part = normal_of (part 0 normal_width l);
  tangent_part = tangent_of (part normal_width tangent_width l);
}

-- the head, point a, the first, and b, the second
unfoldable pub contact_of : List ℕ → List Float → Contact
contact_of numbers l = record {
  head = head_of numbers (part 0 head_width l);
  a = point_of (part (point_place 0) point_width l);
  b = point_of (part (point_place 1) point_width l);
}

-- contact k: its row of numbers and its row of floats
unfoldable pub contact_at : List ℕ → List Float → ℕ → Contact
contact_at numbers floats k = read_row numbers_width k (λ ids. read_row floats_width k (contact_of ids) contact_zero floats) contact_zero numbers

-- A step is a contact number and a kind
abbrev pub step_as : ℕ → ℕ → Step
step_as contact kind = record { contact = contact; kind = kind }

unfoldable pub step_of : List ℕ → Step
step_of l = step_as (get_or l 0 0) (get_or l 1 0)

unfoldable pub step_at : List ℕ → ℕ → Step
step_at steps i = read_row step_width i step_of (step_as 0 0) steps
