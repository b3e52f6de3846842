-- What a point, a contact and a body read as, by their floats. Assumes nothing.
use Prim.Native.Nat.{ℕ, ◌+◌, ◌<◌}
use native.Mathlib.Omega.{arith}
use native.Mathlib.Decide.{dec_lt}
use mathlib.Core.Bool.{Bool, true, false}
use mathlib.Core.List.{List, [], ◌∷◌}
use mathlib.Core.Path.{◌≡◌, refl, sym, ◌∙◌, ap}
use lib.Dec.{lit<, lit≤}
use lib.Ieee.{Float, nan}
use lib.ListN.{get_or, length, set}
use Rattle.base_places.specs.Places.{body_width, floats_width, head_width, impulse_place, normal_width, numbers_width, place, point_place, point_width, tangent_width}
use Rattle.base_places.specs.declared.Cell.{Cell}
use Rattle.base_places.specs.declared.Cell.TheVariants.{NormalImpulse, TangentImpulse}
use Rattle.base_words.specs.Choice.{if◌then◌otherwise◌}
use Rattle.elem_leaves.specs.Leaves.{vec}
use Rattle.elem_velocity.specs.Velocity.{rest}
use Rattle.elem_tangent.specs.Tangent.{tangent_with}
use Rattle.elem_tangent.proofs.Keeps.{tangent_with_lem}
use Rattle.elem_tangent.specs.declared.ContactConstraintTangentPart.{ContactConstraintTangentPart}
use Rattle.elem_normal.specs.Normal.{normal_with}
use Rattle.elem_normal.proofs.Keeps.{normal_with_lem}
use Rattle.elem_normal.specs.declared.ContactConstraintNormalPart.{ContactConstraintNormalPart}
use Rattle.step_contact.specs.Cells.{in_cell, with_cell}
use Rattle.step_contact.specs.Contact.{contact_zero, is_floor}
use Rattle.step_contact.specs.declared.Contact.{Contact}
use Rattle.step_contact.specs.declared.ContactPoint.{ContactPoint}
use Rattle.base_rows.specs.Rows.{part, read_row, row, rows}
use Rattle.base_rows.proofs.Places.{read_row_lem, same_read, set_after, set_before, set_inside}
use Rattle.base_rows.proofs.Lent.{read_past}
use Rattle.base_rows.proofs.Parts.{length_part, part_at}
use Rattle.list_tables.specs.Tables.{contact_at, contact_of, head_of, normal_of, point_of, tangent_of, vel_at, vel_of}

-- what holds of six floats and more holds of every stretch of more than five
of_six : (P : List Float → Type 0) → ((a b c d e f : Float) (l : List Float) → P (a ∷ b ∷ c ∷ d ∷ e ∷ f ∷ l))
    → (l : List Float) → 5 < length l → P l
of_six P six [] h = absurd (omega arith)
of_six P six (_ ∷ []) h = absurd (omega arith)
of_six P six (_ ∷ _ ∷ []) h = absurd (omega arith)
of_six P six (_ ∷ _ ∷ _ ∷ []) h = absurd (omega arith)
of_six P six (_ ∷ _ ∷ _ ∷ _ ∷ []) h = absurd (omega arith)
of_six P six (_ ∷ _ ∷ _ ∷ _ ∷ _ ∷ []) h = absurd (omega arith)
of_six P six (a ∷ b ∷ c ∷ d ∷ e ∷ f ∷ l) h = six a b c d e f l

module _ (x : Float) where
  -- another float at a part's impulse is the part with another impulse
  normal_set : (l : List Float) → impulse_place < length l → normal_of (set l impulse_place x) ≡ normal_with (normal_of l) x
  unfolding normal_of
  normal_set =
      of_six (λ (l : List Float). normal_of (set l impulse_place x) ≡ normal_with (normal_of l) x) (λ a b c d e f l. sym (normal_with_lem _ x))

  tangent_set : (l : List Float) → impulse_place < length l → tangent_of (set l impulse_place x) ≡ tangent_with (tangent_of l) x
  unfolding tangent_of
  tangent_set =
      of_six (λ (l : List Float). tangent_of (set l impulse_place x) ≡ tangent_with (tangent_of l) x) (λ a b c d e f l. sym (tangent_with_lem _ x))

-- points of the same parts are the same
same_parts : {n n' : ContactConstraintNormalPart} {t t' : ContactConstraintTangentPart} → n ≡ n' → t ≡ t'
    → ◌≡◌ {A = ContactPoint} (record { normal_part = n; tangent_part = t }) (record { normal_part = n'; tangent_part = t' })
same_parts p q = cc

-- another float at a cell's place is the point with another float in the cell
pub cell_set : (c : Cell) (x : Float) (l : List Float) → length l ≡ point_width → point_of (set l (place c) x) ≡ with_cell c (point_of l) x
unfolding point_of with_cell
cell_set NormalImpulse x l long =
    let fits : impulse_place < length (part 0 normal_width l) = omega (arith, length_part 0 normal_width l (omega arith)) in
    same_parts (ap normal_of (set_inside 0 normal_width impulse_place l x (lit< tt)) ∙ normal_set x (part 0 normal_width l) fits)
    (ap tangent_of (set_before normal_width tangent_width impulse_place l x (lit< tt)))
cell_set TangentImpulse x l long =
    let fits : impulse_place < length (part normal_width tangent_width l) = omega (arith, length_part normal_width tangent_width l (omega arith)) in
    same_parts (ap normal_of (set_after 0 normal_width (normal_width + impulse_place) l x (lit≤ tt)))
    (ap tangent_of (set_inside normal_width tangent_width impulse_place l x (lit< tt)) ∙ tangent_set x (part normal_width tangent_width l) fits)

-- and what stands in a cell is the float at its place
pub cell_read : (c : Cell) (l : List Float) → in_cell c (point_of l) ≡ get_or l (place c) nan
unfolding point_of normal_of tangent_of
cell_read NormalImpulse l = part_at 0 normal_width l impulse_place nan (lit< tt)
cell_read TangentImpulse l = part_at normal_width tangent_width l impulse_place nan (lit< tt)

-- a contact whose head's floats are those of another has its head
pub contact_with : (numbers : List ℕ) (l m : List Float) {a b : ContactPoint} → part 0 head_width m ≡ part 0 head_width l
    → point_of (part (point_place 0) point_width m) ≡ a → point_of (part (point_place 1) point_width m) ≡ b → contact_of numbers m ≡ record { head = (contact_of numbers l).head; a = a; b = b }
unfolding contact_of
contact_with numbers l m e p q = rw (e, p, q)

-- a contact's points are those of its floats
pub its_points : (numbers : List ℕ) (l : List Float)
    → ((contact_of numbers l).a ≡ point_of (part (point_place 0) point_width l)) × ((contact_of numbers l).b ≡ point_of (part (point_place 1) point_width l))
unfolding contact_of
its_points numbers l = (refl, refl)

-- contact k where both its rows are there
pub contact_there : (numbers : List ℕ) (floats : List Float) (k : ℕ) → k < rows numbers_width numbers → k < rows floats_width floats
    → contact_at numbers floats k ≡ contact_of (row numbers_width k numbers) (row floats_width k floats)
unfolding contact_at
contact_there numbers floats k h i =
    read_row_lem numbers_width k (λ ids. read_row floats_width k (contact_of ids) contact_zero floats) contact_zero numbers h
    ∙ read_row_lem floats_width k (contact_of (row numbers_width k numbers)) contact_zero floats i

-- a contact's two body numbers stand first in its row of numbers
pub body_numbers : (numbers : List ℕ) (floats : List Float) (k : ℕ) → k < rows numbers_width numbers → k < rows floats_width floats
    → ((contact_at numbers floats k).head.body1 ≡ get_or (row numbers_width k numbers) 0 0) × ((contact_at numbers floats k).head.body2 ≡ get_or (row numbers_width k numbers) 1 0)
unfolding contact_of head_of
body_numbers numbers floats k h i =
    (ap (λ (c : Contact). c.head.body1) (contact_there numbers floats k h i), ap (λ (c : Contact). c.head.body2) (contact_there numbers floats k h i))

-- a body's three floats
pub vel_of_lem : (x y w : Float) → vel_of (x ∷ y ∷ w ∷ []) ≡ record { linear = vec x y; angular = w }
unfolding vel_of
vel_of_lem x y w = refl

module _ (bodies : List Float) (body : ℕ) where
  -- the floor reads as rest
  pub floor_rests : is_floor body ≡ true → vel_at bodies body ≡ rest
  unfolding vel_at
  floor_rests floor = rw floor

  -- a real body reads as its row says
  pub vel_there : is_floor body ≡ false → body < rows body_width bodies → vel_at bodies body ≡ vel_of (row body_width body bodies)
  unfolding vel_at
  vel_there real h = rw real (read_row_lem body_width body vel_of rest bodies h)

  -- a body's velocity hangs on its row, where it is a body of the table and not the floor, and on how many rows there are
  pub same_vel : (others : List Float) → rows body_width others ≡ rows body_width bodies
      → (is_floor body ≡ false → body < rows body_width bodies → row body_width body others ≡ row body_width body bodies) → vel_at others body ≡ vel_at bodies body
  unfolding vel_at
  same_vel others many same = by_case (is_floor body) refl (dec_lt body (rows body_width bodies))
    where
      by_case : (floor : Bool) → is_floor body ≡ floor → Dec (body < rows body_width bodies)
          → (if floor then rest otherwise read_row body_width body vel_of rest others) ≡ (if floor then rest otherwise read_row body_width body vel_of rest bodies)
      by_case true floor _ = refl
      by_case false real (yes h) = same_read body_width body vel_of rest bodies others many (same real h)
      by_case false real (no nl) =
          sym (read_past body_width body others vel_of rest (omega (arith, nl, many)) refl) ∙ read_past body_width body bodies vel_of rest (omega (arith, nl)) refl
