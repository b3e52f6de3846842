-- Document 01, "Tables": "in the field orders above". What the floats of a head and of the parts are, in the document's order, whatever the
-- names of places say. Proved in proofs/InOrder.antt. Assumes nothing.
use Rattle.std.specs.Prelude.{ℕ, [], ◌∷◌, ◌≡◌, Float}
use Rattle.elem_leaves.specs.Leaves.{vec}
use Rattle.list_tables.specs.Tables.{head_of, normal_of, tangent_of}

-- body1 body2 count; dir, im1, im2 (two floats each), friction, k12, flag
abbrev pub HeadInOrder : Type 0
HeadInOrder =
    (one two n : ℕ) (dx dy ax ay bx by friction k12 flag : Float)
    → head_of (one ∷ two ∷ n ∷ []) (dx ∷ dy ∷ ax ∷ ay ∷ bx ∷ by ∷ friction ∷ k12 ∷ flag ∷ [])
    ≡ record { body1 = one; body2 = two; count = n; dir1 = vec dx dy; im1 = vec ax ay; im2 = vec bx by; friction = friction; k12 = k12; flag = flag }

-- torque1, torque2, ii1, ii2, rhs, impulse, accumulator, r, cfm, seed
abbrev pub NormalInOrder : Type 0
NormalInOrder =
    (t1 t2 i1 i2 rhs impulse total r cfm seed : Float)
    → normal_of (t1 ∷ t2 ∷ i1 ∷ i2 ∷ rhs ∷ impulse ∷ total ∷ r ∷ cfm ∷ seed ∷ [])
    ≡ record { torque_dir1 = t1; torque_dir2 = t2; ii_torque_dir1 = i1; ii_torque_dir2 = i2; rhs = rhs; impulse = impulse; impulse_accumulator = total; r = r; cfm_factor = cfm; seed = seed }

-- "the first eight of these"
abbrev pub TangentInOrder : Type 0
TangentInOrder =
    (t1 t2 i1 i2 rhs impulse total r : Float)
    → tangent_of (t1 ∷ t2 ∷ i1 ∷ i2 ∷ rhs ∷ impulse ∷ total ∷ r ∷ [])
    ≡ record { torque_dir1 = t1; torque_dir2 = t2; ii_torque_dir1 = i1; ii_torque_dir2 = i2; rhs = rhs; impulse = impulse; impulse_accumulator = total; r = r }
