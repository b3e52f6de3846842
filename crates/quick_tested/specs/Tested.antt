-- Statements about document 01's number 10: of a contact without a flaw it looks at the six numbers of the velocities alone. In each, a
-- kind that needs two points has them. Assumes nothing.
use Rattle.std.specs.Prelude.{ℕ, ◌<◌, true, false, ◌||◌, [], ◌∷◌, ◌≡◌}
use Rattle.elem_velocity.specs.declared.Vels.{Vels}
use Rattle.step_contact.specs.declared.Contact.{Contact}
use Rattle.step_kinds.specs.Table.{points_for, routine}
use Rattle.step_shape.specs.Shape.{kind_above, pair_of_one}
use Rattle.base_refusals.specs.Refusals.{◌when◌}
use Rattle.step_rules.specs.Step.{as_read, first_or, tried}
use Rattle.step_values.specs.Values.{finite_vel, lost_impulse, not_finite_vels, some_point, unwritable}
use Rattle.quick_flaws.specs.Flaws.{vouched}

-- where one body's velocity is finite after a step, every impulse to be written is, whatever else the contact and the velocities are.
-- Proved in proofs/Tested.antt
abbrev pub ImpulsesFollow : Type 0
ImpulsesFollow =
    (c : Contact) (kind : ℕ) (v : Vels) → (points_for kind ≡ 2 → 1 < c.head.count)
    → (let s = routine kind c v in
    (finite_vel s.vels.v1 || finite_vel s.vels.v2) ≡ true → some_point (lost_impulse kind) s.contact ≡ false)

-- what a step would leave is unwritable exactly where one of the six is not finite. Proved in proofs/Tested.antt
abbrev pub OneTest : Type 0
OneTest =
    (rows : ℕ) (c : Contact) (kind : ℕ) (v : Vels) → vouched rows c ≡ true → (points_for kind ≡ 2 → 1 < c.head.count)
    → (let s = routine kind c (as_read c.head v) in unwritable kind s ≡ not_finite_vels s.vels)

-- so of a contact without a flaw whose bodies' velocities are finite only 3, 7 and that test are left. Proved in proofs/Quick.antt
abbrev pub QuickStep : Type 0
QuickStep =
    (rows : ℕ) (c : Contact) (kind : ℕ) (v : Vels) → vouched rows c ≡ true → not_finite_vels (as_read c.head v) ≡ false
    → (let read = as_read c.head v in
    let s = routine kind c read in
    tried c kind read rows ≡ first_or (3 when kind_above kind ∷ 7 when pair_of_one kind c.head ∷ 10 when not_finite_vels s.vels ∷ []) s)
