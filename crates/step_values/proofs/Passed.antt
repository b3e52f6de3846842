-- What is known where a condition does not hold. Assumes nothing.
use Prim.Native.Nat.{ℕ}
use mathlib.Core.Path.{◌≡◌, refl, ap, ◌∙◌}
use mathlib.Core.Bool.{Bool, true, false, not, ◌&&◌, ◌||◌}
use lib.Dec.{ltb}
use Rattle.base_words.proofs.Said.{all_l, all_r, none_l, none_r, so}
use Rattle.elem_leaves.specs.Finite.{finite}
use Rattle.elem_leaves.specs.Floats.{below0, in_unit}
use Rattle.elem_leaves.specs.Signs.{InUnit, NotBelow0}
use Rattle.elem_velocity.specs.declared.SolverVel.{SolverVel}
use Rattle.base_order.specs.OneByOne.{any}
use Rattle.base_places.specs.declared.Cell.{Cell}
use Rattle.base_places.specs.declared.Cell.TheVariants.{NormalImpulse, TangentImpulse}
use Rattle.step_contact.specs.Cells.{in_cell}
use Rattle.step_kinds.proofs.Keeps.{same_head, stored_point}
use Rattle.step_kinds.proofs.Stored.{unstored}
use Rattle.step_contact.specs.Places.{Place, at_a, at_b, load, number, point}
use Rattle.step_kinds.specs.Table.{stores}
use Rattle.step_kinds.specs.Stored.{stored, stored_at}
use Rattle.step_contact.specs.Contact.{is_floor}
use Rattle.step_contact.specs.declared.Contact.{Contact}
use Rattle.step_contact.specs.declared.ContactHead.{ContactHead}
use Rattle.step_contact.specs.declared.ContactPoint.{ContactPoint}
use Rattle.step_kinds.specs.declared.ContactSolved.{ContactSolved}
use Rattle.step_values.specs.Values.{below_count, finite_head, finite_normal, finite_point, finite_tangent, finite_vel, floor_moves, head_out, lost_cell, lost_impulse, lost_vel, not_finite, out_of_range, point_out, some_point, unwritable}

-- a test that holds at no point below count
module _ (test : ContactPoint → Bool) (c : Contact) where
  pub not_at : some_point test c ≡ false → (x : Place) → ltb (number x) c.head.count ≡ true → test (point x c) ≡ false
  unfolding below_count
  not_at e at_a below = none_l (test c.a) (ltb 1 c.head.count && test c.b) (rw below at e)
  not_at e at_b below = none_r (ltb 0 c.head.count && test c.a) (test c.b) (rw below at e)

-- one test of many that all pass: x before it, the others after it
inner : (x i a r : Bool) → (x && i && a && r) ≡ true → i ≡ true
inner x true a r e = refl
inner true false a r e = e
inner false false a r e = e

-- 8: the cells of a finite point are finite
pub cell_finite : (c : Cell) (p : ContactPoint) → finite_point p ≡ true → finite (in_cell c p) ≡ true
unfolding finite_point finite_normal finite_tangent
cell_finite NormalImpulse p f =
    let n = p.normal_part in
    let x = finite n.torque_dir1 && finite n.torque_dir2 && finite n.ii_torque_dir1 && finite n.ii_torque_dir2 && finite n.rhs in
    let part = x && finite n.impulse && finite n.impulse_accumulator && finite n.r in
    inner x (finite n.impulse) (finite n.impulse_accumulator) (finite n.r)
    (all_l part (finite n.cfm_factor) (all_l (part && finite n.cfm_factor) (finite n.seed) (all_l (finite_normal n) (finite_tangent p.tangent_part) f)))
cell_finite TangentImpulse p f =
    let t = p.tangent_part in
    let x = finite t.torque_dir1 && finite t.torque_dir2 && finite t.ii_torque_dir1 && finite t.ii_torque_dir2 && finite t.rhs in
    inner x (finite t.impulse) (finite t.impulse_accumulator) (finite t.r) (all_r (finite_normal p.normal_part) (finite_tangent t) f)

-- 8 and 10: at a point whose numbers were finite and whose stored cells are, every cell is finite
module _ (kind : ℕ) (p q : ContactPoint) (is_stored : q ≡ stored_at (stores kind) p q) (kept : lost_impulse kind q ≡ false) where
  kept_cell : (c : Cell) → lost_cell kind q c ≡ false
  unfolding lost_impulse any
  kept_cell NormalImpulse = none_l (lost_cell kind q NormalImpulse) (lost_cell kind q TangentImpulse || false) kept
  kept_cell TangentImpulse =
      none_l (lost_cell kind q TangentImpulse) false (none_r (lost_cell kind q NormalImpulse) (lost_cell kind q TangentImpulse || false) kept)

  -- stored and found finite, or the old one
  tame : finite_point p ≡ true → (c : Cell) → finite (in_cell c q) ≡ true
  tame f c = by_case (stores kind c) refl
    where
      by_case : (b : Bool) → stores kind c ≡ b → finite (in_cell c q) ≡ true
      by_case true e = so (finite (in_cell c q)) (rw e at (kept_cell c))
      by_case false e =
          ap (λ (x : ContactPoint). finite (in_cell c x)) is_stored ∙ ap finite (unstored c (stores kind) p q e) ∙ cell_finite c p f

-- 8: every point below count is finite
module _ (c : Contact) (passed : not_finite c ≡ false) where
  abbrev wrong_head : Bool
  wrong_head = not (finite_head c.head)

  abbrev wrong_points : Bool
  wrong_points = some_point (λ p. not (finite_point p)) c

  pub points_finite : wrong_points ≡ false
  unfolding not_finite
  points_finite = none_r wrong_head wrong_points passed

  pub point_finite : (x : Place) → ltb (number x) c.head.count ≡ true → finite_point (point x c) ≡ true
  point_finite x below = so (finite_point (point x c)) (not_at (λ p. not (finite_point p)) c points_finite x below)

-- 10: a velocity of a real body that is not lost is finite
real_finite : (body : ℕ) (v : SolverVel) → lost_vel body v ≡ false → is_floor body ≡ false → finite_vel v ≡ true
real_finite body v kept real = so (finite_vel v) (rw real at kept)

-- 10: what is to be written is finite
module _ (kind : ℕ) (s : ContactSolved) (passed : unwritable kind s ≡ false) where
  abbrev lost1 : Bool
  lost1 = lost_vel s.contact.head.body1 s.vels.v1

  abbrev lost2 : Bool
  lost2 = lost_vel s.contact.head.body2 s.vels.v2

  abbrev lost-points : Bool
  lost-points = some_point (lost_impulse kind) s.contact

  pub velocity1_finite : is_floor s.contact.head.body1 ≡ false → finite_vel s.vels.v1 ≡ true
  unfolding unwritable
  velocity1_finite = real_finite s.contact.head.body1 s.vels.v1 (none_l lost1 lost2 (none_l (lost1 || lost2) lost-points passed))

  pub velocity2_finite : is_floor s.contact.head.body2 ≡ false → finite_vel s.vels.v2 ≡ true
  unfolding unwritable
  velocity2_finite = real_finite s.contact.head.body2 s.vels.v2 (none_r lost1 lost2 (none_l (lost1 || lost2) lost-points passed))

  points_kept : lost-points ≡ false
  unfolding unwritable
  points_kept = none_r (lost1 || lost2) lost-points passed

-- 8 and 10, over the contact: every cell of what a step leaves is finite
module _ (kind : ℕ) (c : Contact) (s : ContactSolved) (is_stored : s.contact ≡ stored (stores kind) c s.contact)
    (found_finite : not_finite c ≡ false) (passed : unwritable kind s ≡ false) where
  pub cells_finite : (x : Place) → ltb (number x) s.contact.head.count ≡ true → (cell : Cell) → finite (in_cell cell (point x s.contact)) ≡ true
  cells_finite x below =
      let d = s.contact in
      let count : d.head.count ≡ c.head.count = ap (λ (h : ContactHead). h.count) (same_head (stores kind) c d is_stored) in
      let old : ltb (number x) c.head.count ≡ true = rw (← count) below in
      tame kind (point x c) (point x d) (stored_point (stores kind) c d is_stored x old)
      (not_at (lost_impulse kind) d (points_kept kind s passed) x below) (point_finite c found_finite x old)

-- 9: a point in range has an impulse that is not below 0 and its cfm in (0, 1]
pub in_range : (h : ContactHead) (p : ContactPoint) → point_out h p ≡ false → NotBelow0 p.normal_part.impulse × InUnit p.normal_part.cfm_factor
unfolding point_out
in_range h p e =
    let n = p.normal_part in
    let t = p.tangent_part in
    let rs = below0 n.r || below0 t.r in
    let i = below0 n.impulse in
    let cfm = in_unit n.cfm_factor in
    let f1 = floor_moves h.body1 n.ii_torque_dir1 t.ii_torque_dir1 in
    let f2 = floor_moves h.body2 n.ii_torque_dir2 t.ii_torque_dir2 in
    let first = none_l (rs || i || not cfm) f1 (none_l (rs || i || not cfm || f1) f2 e) in
    (none_r rs i (none_l (rs || i) (not cfm) first), so cfm (none_r (rs || i) (not cfm) first))

-- so has every point below count
pub points_in_range : (c : Contact) → out_of_range c ≡ false → (x : Place) → ltb (number x) c.head.count ≡ true
    → NotBelow0 (load x c) × InUnit (point x c).normal_part.cfm_factor
unfolding out_of_range
points_in_range c e x below =
    in_range c.head (point x c) (not_at (point_out c.head) c (none_r (head_out c.head) (some_point (point_out c.head) c) e) x below)
