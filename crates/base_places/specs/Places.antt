-- Document 01, "Tables", as numbers: how wide the rows of the lent stretches are, where a point's cells stand among its floats, and how
-- much a call takes. src/lib.rt says the same for code; every other file has these names, and no number of its own. Assumes nothing.
use Rattle.std.specs.Prelude.{ℕ, ◌+◌, ◌*◌, Bool, false, List, [], ◌∷◌, eqb}
use Rattle.base_places.specs.declared.Cell.{Cell}
use Rattle.base_places.specs.declared.Cell.TheVariants.{NormalImpulse, TangentImpulse}

-- "A body has velocity x, y and angular w"
abbrev pub body_width : ℕ
body_width = 3

-- "Each contact carries .. two body numbers, point count" ..
abbrev pub numbers_width : ℕ
numbers_width = 3

-- .. "dir, im1, im2 (two floats each), friction, k12, flag" ..
abbrev pub head_width : ℕ
head_width = 9

-- .. "and for each of two points a normal part (torque1, torque2, ii1, ii2, rhs, impulse, accumulator, r, cfm, seed)" ..
abbrev pub normal_width : ℕ
normal_width = 10

-- .. "and a tangent part (the first eight of these)"
abbrev pub tangent_width : ℕ
tangent_width = 8

abbrev pub point_width : ℕ
point_width = normal_width + tangent_width

abbrev pub floats_width : ℕ
floats_width = head_width + 2 * point_width

-- where point p's floats begin: "Point a is the first, b the second"
abbrev pub point_place : ℕ → ℕ
point_place p = head_width + p * point_width

-- "A step is a contact number and a kind"
abbrev pub step_width : ℕ
step_width = 2

-- "A step answers its number and a branch"
abbrev pub answer_width : ℕ
answer_width = 2

-- the impulse and the accumulator within either part
abbrev pub impulse_place : ℕ
impulse_place = 5

abbrev pub accumulator_place : ℕ
accumulator_place = 6

-- where a cell stands among its point's floats
abbrev pub place : Cell → ℕ
place NormalImpulse = impulse_place
place TangentImpulse = normal_width + impulse_place

-- the cells of a point that a step may store: each, that one alone, or none
abbrev pub cells : List Cell
cells = NormalImpulse ∷ TangentImpulse ∷ []

abbrev pub only : Cell → Cell → Bool
only c d = eqb (place c) (place d)

abbrev pub none : Cell → Bool
none c = false

-- "A library call takes at most 4,096 bodies, 16,384 contacts and 65,536 steps"
abbrev pub most_bodies : ℕ
most_bodies = 4096

abbrev pub most_contacts : ℕ
most_contacts = 16384

abbrev pub most_steps : ℕ
most_steps = 65536
