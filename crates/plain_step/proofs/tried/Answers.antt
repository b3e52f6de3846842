-- `plain_step::tried` meets its contract. Each return is the first condition that holds, or what is left of the list. Assumes nothing.
use Rattle.step_rules.specs.Step.{asked, checks, conditions, holds_of, tried}
use Rattle.step_values.proofs.Parts.{either}
use Rattle.step_rules.proofs.Chain.{hit, miss}
use Rattle.plain_step.proofs.tried.Goals as goal

pub returns-then-kind_above : goal.returns-then-kind_above
unfolding tried conditions asked checks holds_of
returns-then-kind_above c = search hit

pub returns-then-wrong_bodies : goal.returns-then-wrong_bodies
unfolding tried conditions asked checks holds_of
returns-then-wrong_bodies c = search (hit, miss) depth 16

pub returns-then-wrong_count : goal.returns-then-wrong_count
unfolding tried conditions asked checks holds_of
returns-then-wrong_count c = search (hit, miss) depth 16

pub returns-then-pair_of_one : goal.returns-then-pair_of_one
unfolding tried conditions asked checks holds_of
returns-then-pair_of_one c = search (hit, miss) depth 16

pub returns-then-not_finite-not_finite_vels : goal.returns-then-not_finite-not_finite_vels
unfolding tried conditions asked checks holds_of
returns-then-not_finite-not_finite_vels c = search (hit, miss, either) depth 16

pub returns-then-out_of_range : goal.returns-then-out_of_range
unfolding tried conditions asked checks holds_of
returns-then-out_of_range c = search (hit, miss, either) depth 16

pub returns : goal.returns
unfolding tried conditions asked checks holds_of
returns c = search (miss, either) depth 16
