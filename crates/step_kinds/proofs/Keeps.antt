-- A routine leaves every number of a contact as it was but the cells that its kind stores, and only a pair has a branch.
-- By what the element layer keeps. Assumes nothing.
use Prim.Native.Nat.{ℕ, zero, suc, ◌<◌}
use mathlib.Core.Path.{◌≡◌, refl, sym, ap, ◌∙◌}
use mathlib.Core.Bool.{Bool, true, false, cond}
use borrow.Author.Tests.{lt-ltb}
use native.Mathlib.Omega.{arith}
use lib.Dec.{ltb}
use Rattle.std.specs.Prelude.{None}
use Rattle.elem_leaves.specs.Floats.{◌*f◌}
use Rattle.elem_leaves.specs.Leaves.{tangent}
use Rattle.elem_velocity.specs.declared.Vels.{Vels}
use Rattle.elem_tangent.proofs.Keeps.{friction_keeps}
use Rattle.elem_normal.proofs.Keeps.{normal_keeps, pair_keeps, restitution_keeps}
use Rattle.elem_normal.specs.declared.ContactConstraintNormalPart.{ContactConstraintNormalPart}
use Rattle.step_contact.specs.Places.{Place, at_a, at_b, number, point}
use Rattle.step_kinds.specs.Kinds.{at_point, friction_at, normal_at, normal_left, over_points, pair_of, restitution_at, turn, warm_normal_at, warm_start, warm_tangent_at}
use Rattle.step_kinds.specs.Table.{kind_of, kinds, no_kind, points_for, routine, stores}
use Rattle.step_kinds.specs.Stored.{stored, stored_at, stored_in}
use Rattle.base_places.specs.Places.{none, only}
use Rattle.base_places.specs.declared.Cell.{Cell}
use Rattle.base_places.specs.declared.Cell.TheVariants.{NormalImpulse, TangentImpulse}
use Rattle.step_contact.specs.Cells.{with_cell}
use Rattle.step_contact.specs.declared.Contact.{Contact}
use Rattle.step_contact.specs.declared.ContactHead.{ContactHead}
use Rattle.step_contact.specs.declared.ContactPoint.{ContactPoint}
use Rattle.step_kinds.specs.declared.Rule.{Rule}
use Rattle.step_kinds.specs.declared.Rule.TheVariants.{WarmNormal, WarmTangent, Normal, Friction, Restitution}

-- which cells a rule stores
abbrev rule_stores : Rule → Cell → Bool
rule_stores WarmNormal = none
rule_stores WarmTangent = none
rule_stores Normal = only NormalImpulse
rule_stores Friction = only TangentImpulse
rule_stores Restitution = only NormalImpulse

module _ (h : ContactHead) (p : ContactPoint) (v : Vels) where
  -- at one point
  at_keeps : (rule : Rule) → (at_point rule h p v).point ≡ stored_at (rule_stores rule) p (at_point rule h p v).point
  unfolding at_point stored_in with_cell warm_normal_at warm_tangent_at normal_at normal_left friction_at restitution_at
  at_keeps WarmNormal = refl
  at_keeps WarmTangent = refl
  at_keeps Normal = cc (normal_keeps p.normal_part h.dir1 h.im1 h.im2 v)
  at_keeps Friction = cc (friction_keeps p.tangent_part (tangent h.dir1) h.im1 h.im2 (h.friction *f p.normal_part.impulse) v)
  at_keeps Restitution = cc (restitution_keeps p.normal_part h.dir1 h.im1 h.im2 v)

  -- at one place
  turn_keeps : (rule : Rule) (place : ℕ)
      → (turn rule place h p v).point
      ≡ cond (ltb place h.count) (stored_at (rule_stores rule) p (turn rule place h p v).point) p
  unfolding turn
  turn_keeps rule place = by_place (ltb place h.count)
    where
      by_place : (below : Bool)
          → (cond below (at_point rule h p v) (record { point = p; vels = v })).point
          ≡ cond below (stored_at (rule_stores rule) p (cond below (at_point rule h p v) (record { point = p; vels = v })).point) p
      by_place true = at_keeps rule
      by_place false = refl

module _ (c : Contact) (v : Vels) where
  -- at both
  over_keeps : (rule : Rule) → (over_points rule c v).contact ≡ stored (rule_stores rule) c (over_points rule c v).contact
  unfolding over_points stored
  over_keeps rule = cc (turn_keeps c.head c.a v rule 0, turn_keeps c.head c.b (turn rule 0 c.head c.a v).vels rule 1)

-- storing nothing is the contact as it was
either_way : {A : Type 0} (b : Bool) (x : A) → cond b x x ≡ x
either_way true x = refl
either_way false x = refl

nothing_stored : (c d : Contact) → stored none c d ≡ c
unfolding stored stored_in
nothing_stored c d = simp either_way

-- a contact with other normal parts
abbrev with_parts : Contact → ContactConstraintNormalPart → ContactConstraintNormalPart → Contact
with_parts c a b = record {
  head = c.head;
  a = record { normal_part = a; tangent_part = c.a.tangent_part };
  b = record { normal_part = b; tangent_part = c.b.tangent_part };
}

same_parts : (c : Contact) {a a' b b' : ContactConstraintNormalPart} → a ≡ a' → b ≡ b' → with_parts c a b ≡ with_parts c a' b'
same_parts c p q = cc

module _ (c : Contact) (v : Vels) where
  pub warm_keeps : (warm_start c v).contact ≡ c
  unfolding warm_start
  warm_keeps =
      let pushed = over_points WarmNormal c v in
      over_keeps pushed.contact pushed.vels WarmTangent ∙ nothing_stored _ _ ∙ over_keeps c v WarmNormal ∙ nothing_stored _ _

  two_keep : 1 < c.head.count → (pair_of c v).contact ≡ stored (only NormalImpulse) c (pair_of c v).contact
  unfolding pair_of stored stored_in with_cell
  two_keep two =
      let h = c.head in
      let kept = pair_keeps c.a.normal_part c.b.normal_part h.dir1 h.im1 h.im2 h.k12 h.flag v in
      rw (lt-ltb 0 h.count (omega arith), lt-ltb 1 h.count two) (same_parts c kept.0 kept.1)

  -- every kind; one that needs two points has them
  pub routine_keeps : (kind : ℕ) → (points_for kind ≡ 2 → 1 < c.head.count) → (routine kind c v).contact ≡ stored (stores kind) c (routine kind c v).contact
  unfolding routine stores points_for kind_of kinds no_kind
  routine_keeps zero two = warm_keeps ∙ sym (nothing_stored _ _)
  routine_keeps (suc zero) two = over_keeps c v Normal
  routine_keeps (suc (suc zero)) two = over_keeps c v Friction
  routine_keeps (suc (suc (suc zero))) two = over_keeps c v Restitution
  routine_keeps (suc (suc (suc (suc zero)))) two = two_keep (two refl)
  routine_keeps (suc (suc (suc (suc (suc kind))))) two = sym (nothing_stored c c)

  -- only a pair has a branch
  pub no_branch : (kind : ℕ) → (kind ≡ 4 → ⊥) → (routine kind c v).branch ≡ None
  unfolding routine kind_of kinds no_kind warm_start over_points
  no_branch zero other = refl
  no_branch (suc zero) other = refl
  no_branch (suc (suc zero)) other = refl
  no_branch (suc (suc (suc zero))) other = refl
  no_branch (suc (suc (suc (suc zero)))) other = absurd (other refl)
  no_branch (suc (suc (suc (suc (suc kind))))) other = refl

-- what a contact that is another with stored cells has of it
module _ (which : Cell → Bool) (c d : Contact) (is_stored : d ≡ stored which c d) where
  pub same_head : d.head ≡ c.head
  unfolding stored
  same_head = ap (λ (x : Contact). x.head) is_stored

  pub stored_point : (x : Place) → ltb (number x) c.head.count ≡ true → point x d ≡ stored_at which (point x c) (point x d)
  unfolding stored
  stored_point at_a below = ap (λ (x : Contact). x.a) is_stored ∙ rw below
  stored_point at_b below = ap (λ (x : Contact). x.b) is_stored ∙ rw below
