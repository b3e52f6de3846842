-- The statements of specs/Pushing.antt: each rule at a point, then over the points below count, then each line of the table of kinds. Assumes
-- nothing.
use Prim.Native.Nat.{ℕ, ◌<◌}
use native.Mathlib.Omega.{arith}
use mathlib.Core.Bool.{Bool, true, false}
use mathlib.Core.Logic.{inl, inr}
use mathlib.Core.Path.{◌≡◌, refl}
use borrow.Author.Tests.{lt-ltb, ltb-true}
use lib.Dec.{ltb}
use lib.Ieee.{Float}
use Rattle.base_words.specs.Choice.{if◌then◌otherwise◌}
use Rattle.base_words.specs.Each.{Each}
use Rattle.base_words.proofs.Each.{◌and◌, each_at}
use Rattle.base_places.specs.declared.Cell.TheVariants.{NormalImpulse}
use Rattle.elem_leaves.specs.Signs.{AtLeast0, InUnit}
use Rattle.elem_leaves.proofs.Signs.{number_at_least}
use Rattle.elem_velocity.specs.declared.Vels.{Vels}
use Rattle.elem_impulse.specs.Pushing.{Made, Pushes}
use Rattle.elem_impulse.proofs.Pushing.{carried}
use Rattle.elem_normal.proofs.Pushing.{parts_push}
use Rattle.step_contact.specs.Places.{Place, at_a, at_b, load, number, point}
use Rattle.step_contact.specs.declared.Contact.{Contact}
use Rattle.step_contact.specs.declared.ContactHead.{ContactHead}
use Rattle.step_contact.specs.declared.ContactPoint.{ContactPoint}
use Rattle.step_kinds.specs.Kinds.{at_point, friction_at, normal_at, normal_left, over_points, pair_of, restitution_at, turn, warm_normal_at, warm_start, warm_tangent_at}
use Rattle.step_kinds.specs.Table.{kind_of, kinds, no_kind, points_for, routine}
use Rattle.step_kinds.proofs.Keeps.{warm_keeps}
use Rattle.step_kinds.specs.declared.Rule.{Rule}
use Rattle.step_kinds.specs.declared.Rule.TheVariants.{WarmNormal, WarmTangent, Normal, Friction, Restitution}
use Rattle.step_shape.proofs.Points.{two_points}
use Rattle.step_values.proofs.Passed.{cell_finite, point_finite, points_in_range}
use Rattle.step_rules.specs.Step.{as_read}
use Rattle.step_promises.specs.Pushing.{AllPush, DoneLoads, DonePushes, KindPushes, KindsPush, Soft}
use Rattle.step_promises.proofs.Promises.{known}

-- the load that a point holds
abbrev held : ContactPoint → Float
held p = p.normal_part.impulse

module _ (h : ContactHead) (p : ContactPoint) (v : Vels) where
  normal_pushes : InUnit p.normal_part.cfm_factor → Made (held (at_point Normal h p v).point)
  unfolding at_point normal_at normal_left
  normal_pushes soft = parts_push.normals p.normal_part h.dir1 h.im1 h.im2 v soft

  restitution_pushes : Pushes (held p) (held (at_point Restitution h p v).point)
  unfolding at_point restitution_at normal_left
  restitution_pushes = parts_push.restitutions p.normal_part h.dir1 h.im1 h.im2 v

  friction_keeps : held (at_point Friction h p v).point ≡ held p
  unfolding at_point friction_at
  friction_keeps = refl

  rules_push : (rule : Rule) → (rule ≡ Normal → InUnit p.normal_part.cfm_factor) → Pushes (held p) (held (at_point rule h p v).point)
  unfolding at_point warm_normal_at warm_tangent_at
  rules_push WarmNormal soft = inl refl
  rules_push WarmTangent soft = inl refl
  rules_push Normal soft = inr (normal_pushes (soft refl))
  rules_push Friction soft = inl friction_keeps
  rules_push Restitution soft = restitution_pushes

  -- at a place, where it is below count
  turn_pushes : (rule : Rule) (x : Place) → (number x < h.count → Pushes (held p) (held (at_point rule h p v).point))
      → Pushes (held p) (held (turn rule (number x) h p v).point)
  unfolding turn
  turn_pushes rule x there = by_case (ltb (number x) h.count) (λ e. there (ltb-true (number x) h.count e))
    where
      by_case : (b : Bool) → (b ≡ true → Pushes (held p) (held (at_point rule h p v).point))
          → Pushes (held p) (held (if b then at_point rule h p v otherwise (record { point = p; vels = v })).point)
      by_case true f = f refl
      by_case false f = inl refl

module _ (c : Contact) (v : Vels) where
  -- at both places
  over_pushes : (rule : Rule) → ((x : Place) (w : Vels) → number x < c.head.count → Pushes (load x c) (held (at_point rule c.head (point x c) w).point))
      → AllPush c (over_points rule c v).contact
  unfolding over_points
  over_pushes rule there at_a = turn_pushes c.head c.a v rule at_a (there at_a v)
  over_pushes rule there at_b = let w = (turn rule 0 c.head c.a v).vels in turn_pushes c.head c.b w rule at_b (there at_b w)

  pair_parts : (two : 1 < c.head.count) (soft : Soft c) → Pushes (load at_a c) (load at_a (pair_of c v).contact) × Pushes (load at_b c) (load at_b (pair_of c v).contact)
  unfolding pair_of
  pair_parts two soft =
      let h = c.head in
      parts_push.pairs c.a.normal_part c.b.normal_part h.dir1 h.im1 h.im2 h.k12 h.flag v (soft at_a (omega arith)) (soft at_b two)

  pair_pushes : 1 < c.head.count → Soft c → AllPush c (pair_of c v).contact
  pair_pushes two soft at_a = (pair_parts two soft).0
  pair_pushes two soft at_b = (pair_parts two soft).1

  warm_pushes : AllPush c (warm_start c v).contact
  warm_pushes x = rw (warm_keeps c v) (inl refl)

-- the table of kinds, line by line
kinds_push : Each KindPushes kinds
unfolding kinds
kinds_push =
    (λ c v two soft. warm_pushes c v)
    and (λ c v two soft. over_pushes c v Normal (λ x w below. inr (normal_pushes c.head (point x c) w (soft x below))))
    and (λ c v two soft. over_pushes c v Friction (λ x w below. inl (friction_keeps c.head (point x c) w)))
    and (λ c v two soft. over_pushes c v Restitution (λ x w below. restitution_pushes c.head (point x c) w))
    and (λ c v two soft. pair_pushes c v (two refl) soft)
    and tt

-- no other number does anything
nothing_pushes : KindPushes no_kind
unfolding no_kind
nothing_pushes c v two soft x = inl refl

numbers_push : (kind : ℕ) → KindPushes (kind_of kind)
unfolding kind_of
numbers_push = each_at KindPushes no_kind nothing_pushes kinds kinds_push

pub every_kind : KindsPush
every_kind = record { normal = normal_pushes; rules = λ rule h p v. rules_push h p v rule; table = kinds_push; numbers = numbers_push }

-- a done step passed 9, and so its points in use are soft
pub done_pushes : DonePushes
unfolding routine points_for
done_pushes c kind v rows s e =
    let k = known c kind v rows s e in
    let h = c.head in
    rw k.contact
    (numbers_push kind c (as_read h v) (two_points kind h k.counted k.paired)
    (λ x below. (points_in_range c k.in_range x (lt-ltb (number x) h.count below)).1))

-- and their loads were finite and not below 0
pub done_loads : DoneLoads
done_loads c kind v rows s e x below =
    let k = known c kind v rows s e in
    let in_use = lt-ltb (number x) c.head.count below in
    let finite_load = cell_finite NormalImpulse (point x c) (point_finite c k.read_finite x in_use) in
    let old = number_at_least (load x c) finite_load (points_in_range c k.in_range x in_use).0 in
    carried AtLeast0 (λ n h. h) (done_pushes c kind v rows s e x) old
