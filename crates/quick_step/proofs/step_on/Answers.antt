-- `quick_step::step_on` meets its contract. Each arm is the routine of its kind, of the contact as it was read. Assumes nothing.
use native.Mathlib.Omega.{arith}
use mathlib.Core.Path.{refl}
use Rattle.step_kinds.specs.Table.{kind_of, kinds, points_for, routine}
use Rattle.step_shape.specs.Shape.{kind_above, pair_of_one}
use Rattle.quick_step.proofs.Worked.{made_rows, by_kind, by_kind_of_one, no_kind_lem, no_pair, read_bodies, same_numbers}
use Rattle.quick_step.proofs.There.{has_numbers, has_floats, has_count}
use Rattle.quick_step.proofs.step_on.Goals as goal

pub velocities_in-vels-requires : goal.velocities_in-vels-requires
velocities_in-vels-requires c = search read_bodies

pub returns-then-pair_of_one-clause-stepped : goal.returns-then-pair_of_one-clause-stepped
unfolding kind_above kinds
returns-then-pair_of_one-clause-stepped c =
    no_pair _ _ _ _ c.requires 4 c.in-4.is refl c.its_contact-contact.ensures c.pair_of_one.ensures c.if-pair_of_one.true c.from.ensures

pub returns-in-0-clause-stepped : goal.returns-in-0-clause-stepped
unfolding routine kind_of kinds kind_above pair_of_one points_for
returns-in-0-clause-stepped c =
    same_numbers c.kept.ensures.still_lent.numbers
    (by_kind_of_one _ _ _ _ c.requires 0 c.in-0.is refl (λ _. refl) c.its_contact-contact.ensures
    c.its_contact.ensures c.velocities_in-vels.ensures c.warmstart-made.ensures c.kept.ensures.left)

pub returns-in-1-clause-stepped : goal.returns-in-1-clause-stepped
unfolding routine kind_of kinds kind_above pair_of_one points_for
returns-in-1-clause-stepped c =
    same_numbers c.kept-in-1.ensures.still_lent.numbers
    (by_kind_of_one _ _ _ _ c.requires 1 c.in-1.is refl (λ _. refl) c.its_contact-contact.ensures
    c.its_contact-in-1.ensures c.velocities_in-vels.ensures c.over_points-made.ensures c.kept-in-1.ensures.left)

pub returns-in-2-clause-stepped : goal.returns-in-2-clause-stepped
unfolding routine kind_of kinds kind_above pair_of_one points_for
returns-in-2-clause-stepped c =
    same_numbers c.kept-in-2.ensures.still_lent.numbers
    (by_kind_of_one _ _ _ _ c.requires 2 c.in-2.is refl (λ _. refl) c.its_contact-contact.ensures
    c.its_contact-in-2.ensures c.velocities_in-vels.ensures c.over_points-made-in-2.ensures c.kept-in-2.ensures.left)

pub returns-in-3-clause-stepped : goal.returns-in-3-clause-stepped
unfolding routine kind_of kinds kind_above pair_of_one points_for
returns-in-3-clause-stepped c =
    same_numbers c.kept-in-3.ensures.still_lent.numbers
    (by_kind_of_one _ _ _ _ c.requires 3 c.in-3.is refl (λ _. refl) c.its_contact-contact.ensures
    c.its_contact-in-3.ensures c.velocities_in-vels.ensures c.over_points-made-in-3.ensures c.kept-in-3.ensures.left)

pub returns-else-pair_of_one-clause-stepped : goal.returns-else-pair_of_one-clause-stepped
unfolding routine kind_of kinds kind_above
returns-else-pair_of_one-clause-stepped c =
    same_numbers c.kept-in-4.ensures.still_lent.numbers
    (by_kind _ _ _ _ c.requires 4 c.in-4.is refl c.its_contact-contact.ensures c.pair_of_one.ensures c.if-pair_of_one.false
    c.its_contact-in-4.ensures c.velocities_in-vels.ensures c.solve_pair-made.ensures c.kept-in-4.ensures.left)

pub returns-in-5-to-65535-clause-stepped : goal.returns-in-5-to-65535-clause-stepped
unfolding kinds
returns-in-5-to-65535-clause-stepped c =
    no_kind_lem _ _ _ _ c.requires (omega arith) c.from-in-5-to-65535.ensures

pub its_contact-contact-requires : goal.its_contact-contact-requires
its_contact-contact-requires c = record { k_bound = search has_numbers; k_bound_2 = search has_floats; k_value = search has_count }

pub its_contact-requires : goal.its_contact-requires
its_contact-requires c = record { k_bound = search has_numbers; k_bound_2 = search has_floats; k_value = search has_count }

pub its_contact-requires-in-1 : goal.its_contact-requires-in-1
its_contact-requires-in-1 c = record { k_bound = search has_numbers; k_bound_2 = search has_floats; k_value = search has_count }

pub its_contact-requires-in-2 : goal.its_contact-requires-in-2
its_contact-requires-in-2 c = record { k_bound = search has_numbers; k_bound_2 = search has_floats; k_value = search has_count }

pub its_contact-requires-in-3 : goal.its_contact-requires-in-3
its_contact-requires-in-3 c = record { k_bound = search has_numbers; k_bound_2 = search has_floats; k_value = search has_count }

pub its_contact-requires-in-4 : goal.its_contact-requires-in-4
its_contact-requires-in-4 c = record { k_bound = search has_numbers; k_bound_2 = search has_floats; k_value = search has_count }

pub kept-requires : goal.kept-requires
unfolding routine kind_of kinds
kept-requires c =
    let made = made_rows _ _ _ _ c.requires 0 _ c.its_contact.ensures c.warmstart-made.ensures in
    record { bodies_value = made.0; k_bound = made.1 }

pub kept-requires-in-1 : goal.kept-requires-in-1
unfolding routine kind_of kinds
kept-requires-in-1 c =
    let made = made_rows _ _ _ _ c.requires 1 _ c.its_contact-in-1.ensures c.over_points-made.ensures in
    record { bodies_value = made.0; k_bound = made.1 }

pub kept-requires-in-2 : goal.kept-requires-in-2
unfolding routine kind_of kinds
kept-requires-in-2 c =
    let made = made_rows _ _ _ _ c.requires 2 _ c.its_contact-in-2.ensures c.over_points-made-in-2.ensures in
    record { bodies_value = made.0; k_bound = made.1 }

pub kept-requires-in-3 : goal.kept-requires-in-3
unfolding routine kind_of kinds
kept-requires-in-3 c =
    let made = made_rows _ _ _ _ c.requires 3 _ c.its_contact-in-3.ensures c.over_points-made-in-3.ensures in
    record { bodies_value = made.0; k_bound = made.1 }

pub kept-requires-in-4 : goal.kept-requires-in-4
unfolding routine kind_of kinds
kept-requires-in-4 c =
    let made = made_rows _ _ _ _ c.requires 4 _ c.its_contact-in-4.ensures c.solve_pair-made.ensures in
    record { bodies_value = made.0; k_bound = made.1 }
