-- What a routine tells: where one body's velocity is finite after it, every impulse that it stores is, and the floor's side is still. Assumes nothing.
use Prim.Native.Nat.{ℕ, zero, suc, ◌<◌}
use native.Mathlib.Omega.{arith}
use mathlib.Core.Path.{◌≡◌, refl, ◌∙◌}
use mathlib.Core.Bool.{Bool, true, false, cond, ◌&&◌, ◌||◌}
use borrow.Author.Tests.{lt-ltb}
use lib.Dec.{ltb}
use lib.Ieee.{Float}
use Rattle.elem_leaves.specs.Finite.{finite}
use Rattle.elem_leaves.specs.Floats.{◌-f◌, ◌*f◌}
use Rattle.elem_leaves.specs.Leaves.{tangent}
use Rattle.elem_velocity.specs.declared.Vels.{Vels}
use Rattle.elem_tangent.specs.Tangent.{friction, tangent_warm, tangent_with}
use Rattle.elem_tangent.specs.declared.ContactConstraintTangentPart.{ContactConstraintTangentPart}
use Rattle.elem_impulse.specs.declared.PairChoice.{PairChoice}
use Rattle.elem_normal.specs.Normal.{normal, normal_moved, normal_warm, normal_with, restitution}
use Rattle.elem_normal.specs.Pair.{pair, pair_moved}
use Rattle.elem_normal.specs.declared.ContactConstraintNormalPart.{ContactConstraintNormalPart}
use Rattle.step_contact.specs.declared.Contact.{Contact}
use Rattle.step_contact.specs.declared.ContactHead.{ContactHead}
use Rattle.step_contact.specs.declared.ContactPoint.{ContactPoint}
use Rattle.base_order.specs.OneByOne.{any}
use Rattle.base_places.specs.Places.{place}
use Rattle.step_kinds.specs.Table.{kind_of, kinds, no_kind, points_for, routine, stores}
use Rattle.step_kinds.specs.Kinds.{at_point, friction_at, normal_at, normal_left, over_points, pair_of, restitution_at, turn, warm_normal_at, warm_start, warm_tangent_at}
use Rattle.step_kinds.specs.declared.Rule.{Rule}
use Rattle.step_kinds.specs.declared.Rule.TheVariants.{WarmNormal, WarmTangent, Normal, Friction, Restitution}
use Rattle.step_contact.specs.Places.{Place, at_a, at_b, number, point}
use Rattle.step_values.specs.Values.{below_count, finite_vel, lost_impulse, some_point}
use Rattle.quick_flaws.proofs.Turns.{neither}
use Rattle.quick_tested.proofs.Zeros.{Zero}
use Rattle.quick_tested.proofs.Implied.{Two, neg_finite, of_difference}
use Rattle.quick_tested.proofs.Pushes.{Direction, Side, Told, Unmoved, pair_tells, pick, push_tells, told_by, told_then, vel}

-- a side that no impulse moves: the head's numbers, and a point's
pub record GroundHead (y : Side) (h : ContactHead) : Type 0 where
  pub direction : Direction h.dir1
  pub unmoved : Unmoved (pick y h.im1 h.im2)

pub record GroundAt (y : Side) (p : ContactPoint) : Type 0 where
  pub press : Zero (pick y p.normal_part.ii_torque_dir1 p.normal_part.ii_torque_dir2)
  pub rub : Zero (pick y p.tangent_part.ii_torque_dir1 p.tangent_part.ii_torque_dir2)

pub record Ground (c : Contact) (y : Side) : Type 0 where
  pub head : GroundHead y c.head
  pub at : (x : Place) → ltb (number x) c.head.count ≡ true → GroundAt y (point x c)

across : (d : _) → Direction d → Direction (tangent d)
unfolding tangent
across d f = record { x_finite = neg_finite d.y ∙ f.y_finite; y_finite = f.x_finite }

-- the kind that stores as a rule does
abbrev kind_of_lem : Rule → ℕ
kind_of_lem WarmNormal = 0
kind_of_lem WarmTangent = 0
kind_of_lem Normal = 1
kind_of_lem Friction = 2
kind_of_lem Restitution = 3

module _ (x : Side) (h : ContactHead) (p : ContactPoint) (v : Vels) where
  abbrev There : Side → Type 0
  There y = GroundHead y h × GroundAt y p

  abbrev n : ContactConstraintNormalPart
  n = p.normal_part

  abbrev t : ContactConstraintTangentPart
  t = p.tangent_part

  pressed : (w : Vels) → Told x v w (λ y. Direction h.dir1 × Unmoved (pick y h.im1 h.im2) × Zero (pick y n.ii_torque_dir1 n.ii_torque_dir2))
      → Told x v w There
  pressed w = told_by (λ y g. (g.0.direction, g.0.unmoved, g.1.press))

  rubbed : (w : Vels) → Told x v w (λ y. Direction (tangent h.dir1) × Unmoved (pick y h.im1 h.im2) × Zero (pick y t.ii_torque_dir1 t.ii_torque_dir2))
      → Told x v w There
  rubbed w = told_by (λ y g. (across h.dir1 g.0.direction, g.0.unmoved, g.1.rub))

  press_tells : (i : Float) → finite_vel (vel x (normal_moved n i h.dir1 h.im1 h.im2 v).vels) ≡ true
      → (finite (normal_moved n i h.dir1 h.im1 h.im2 v).part.impulse ≡ true) × Told x v (normal_moved n i h.dir1 h.im1 h.im2 v).vels There
  unfolding normal_moved normal_with
  press_tells i f =
      let l = i -f n.impulse in
      let r = push_tells h.dir1 h.im1 h.im2 n.ii_torque_dir1 n.ii_torque_dir2 l v x f in
      ((of_difference i n.impulse r.0).0, pressed _ r.1)

  rub_tells : (L : Float) → finite_vel (vel x (friction t (tangent h.dir1) h.im1 h.im2 L v).vels) ≡ true
      → (finite (friction t (tangent h.dir1) h.im1 h.im2 L v).part.impulse ≡ true)
      × Told x v (friction t (tangent h.dir1) h.im1 h.im2 L v).vels There
  unfolding friction tangent_with
  rub_tells L f =
      let i = (friction t (tangent h.dir1) h.im1 h.im2 L v).part.impulse in
      let l = i -f t.impulse in
      let r = push_tells (tangent h.dir1) h.im1 h.im2 t.ii_torque_dir1 t.ii_torque_dir2 l v x f in
      ((of_difference i t.impulse r.0).0, rubbed _ r.1)

  -- a rule at the point
  at_tells : (rule : Rule) → finite_vel (vel x (at_point rule h p v).vels) ≡ true
      → (lost_impulse (kind_of_lem rule) (at_point rule h p v).point ≡ false) × Told x v (at_point rule h p v).vels There
  unfolding at_point warm_normal_at warm_tangent_at normal_at restitution_at friction_at normal_left normal_warm tangent_warm normal restitution lost_impulse any stores kind_of kinds
  at_tells WarmNormal f =
      (refl, pressed _ (push_tells h.dir1 h.im1 h.im2 n.ii_torque_dir1 n.ii_torque_dir2 n.impulse v x f).1)
  at_tells WarmTangent f =
      (refl, rubbed _ (push_tells (tangent h.dir1) h.im1 h.im2 t.ii_torque_dir1 t.ii_torque_dir2 t.impulse v x f).1)
  at_tells Normal f = let r = press_tells _ f in (rw r.0 refl, r.1)
  at_tells Friction f = let r = rub_tells (h.friction *f n.impulse) f in (rw r.0 refl, r.1)
  at_tells Restitution f = let r = press_tells _ f in (rw r.0 refl, r.1)

  -- a rule at a place
  turn_tells : (rule : Rule) (place : ℕ) → finite_vel (vel x (turn rule place h p v).vels) ≡ true
      → ((ltb place h.count && lost_impulse (kind_of_lem rule) (turn rule place h p v).point) ≡ false)
      × Told x v (turn rule place h p v).vels (λ y. GroundHead y h × (ltb place h.count ≡ true → GroundAt y p))
  unfolding turn
  turn_tells rule place = by_place (ltb place h.count) refl
    where
      by_place : (b : Bool) → ltb place h.count ≡ b → finite_vel (vel x (cond b (at_point rule h p v) (record { point = p; vels = v })).vels) ≡ true
          → ((b && lost_impulse (kind_of_lem rule) (cond b (at_point rule h p v) (record { point = p; vels = v })).point) ≡ false)
          × Told x v (cond b (at_point rule h p v) (record { point = p; vels = v })).vels (λ y. GroundHead y h × (ltb place h.count ≡ true → GroundAt y p))
      by_place true e f = let r = at_tells rule f in (r.0, told_by (λ y g. (g.0, g.1 e)) r.1)
      by_place false e f = (refl, record { before = f; stays = λ y g s. s })

  -- a warm start leaves the point as it was
  warm_point : (place : ℕ) → (turn WarmNormal place h p v).point ≡ p
  unfolding turn at_point warm_normal_at
  warm_point place = by_place (ltb place h.count)
    where
      by_place : (b : Bool) → (cond b (warm_normal_at h p v) (record { point = p; vels = v })).point ≡ p
      by_place true = refl
      by_place false = refl

nothing : (p q : Bool) → (p && false || q && false) ≡ false
nothing true true = refl
nothing true false = refl
nothing false true = refl
nothing false false = refl

module _ (x : Side) where
  -- at both points
  over_tells : (c : Contact) (v : Vels) (rule : Rule) → finite_vel (vel x (over_points rule c v).vels) ≡ true
      → (some_point (lost_impulse (kind_of_lem rule)) (over_points rule c v).contact ≡ false) × Told x v (over_points rule c v).vels (Ground c)
  unfolding over_points below_count
  over_tells c v rule f =
      let b = turn_tells x c.head c.b (turn rule 0 c.head c.a v).vels rule 1 f in
      let a = turn_tells x c.head c.a v rule 0 b.1.before in
      (neither a.0 b.0, told_then (told_by (λ y g. (g.head, g.at at_a)) a.1) (told_by (λ y g. (g.head, g.at at_b)) b.1))

  module _ (c : Contact) (v : Vels) where
    warm_contact : (over_points WarmNormal c v).contact ≡ c
    unfolding over_points
    warm_contact = rw (warm_point x c.head c.a v 0, warm_point x c.head c.b (turn WarmNormal 0 c.head c.a v).vels 1) refl

    warm_tells : finite_vel (vel x (warm_start c v).vels) ≡ true
        → (some_point (lost_impulse 0) (warm_start c v).contact ≡ false) × Told x v (warm_start c v).vels (Ground c)
    unfolding warm_start
    warm_tells f =
        let w = over_points WarmNormal c v in
        let second = over_tells w.contact w.vels WarmTangent f in
        let first = over_tells c v WarmNormal second.1.before in
        (second.0, told_then first.1 (told_by (λ y g. rw warm_contact g) second.1))

    moved_tells : (chosen : PairChoice)
        → (let s = pair_moved c.a.normal_part c.b.normal_part chosen c.head.dir1 c.head.im1 c.head.im2 v in
        1 < c.head.count → finite_vel (vel x s.vels) ≡ true → Two s.a.impulse s.b.impulse × Told x v s.vels (Ground c))
    unfolding pair_moved normal_with
    moved_tells chosen two f =
        let a = c.a.normal_part in
        let b = c.b.normal_part in
        let i = chosen.impulse in
        let r = pair_tells a b (i.x -f a.impulse) (i.y -f b.impulse) c.head.dir1 c.head.im1 c.head.im2 v x f in
        let m = c.head.count in (
          ((of_difference i.x a.impulse r.0.0).0, (of_difference i.y b.impulse r.0.1).0),
          told_by (λ y g. (g.head.direction, g.head.unmoved, ((g.at at_a (lt-ltb 0 m (omega arith))).press, (g.at at_b (lt-ltb 1 m two)).press))) r.1,
        )

    pair_of_tells : 1 < c.head.count → finite_vel (vel x (pair_of c v).vels) ≡ true
        → (some_point (lost_impulse 4) (pair_of c v).contact ≡ false) × Told x v (pair_of c v).vels (Ground c)
    unfolding pair_of pair lost_impulse below_count any stores kind_of kinds
    pair_of_tells two f = let r = moved_tells _ two f in (rw (r.0.0, r.0.1) (nothing (ltb 0 c.head.count) (ltb 1 c.head.count)), r.1)

    -- every kind
    pub routine_tells : (kind : ℕ) → (points_for kind ≡ 2 → 1 < c.head.count) → finite_vel (vel x (routine kind c v).vels) ≡ true
        → (some_point (lost_impulse kind) (routine kind c v).contact ≡ false) × Told x v (routine kind c v).vels (Ground c)
    unfolding routine points_for kind_of kinds no_kind lost_impulse below_count any stores
    routine_tells zero two = warm_tells
    routine_tells (suc zero) two = over_tells c v Normal
    routine_tells (suc (suc zero)) two = over_tells c v Friction
    routine_tells (suc (suc (suc zero))) two = over_tells c v Restitution
    routine_tells (suc (suc (suc (suc zero)))) two = pair_of_tells (two refl)
    routine_tells (suc (suc (suc (suc (suc kind))))) two =
        λ f. (nothing (ltb 0 c.head.count) (ltb 1 c.head.count), record { before = f; stays = λ y g s. s })
