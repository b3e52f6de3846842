-- `quick_flaws::flaw` meets its contract. One condition after the other. Assumes nothing.
use Rattle.base_refusals.proofs.Chain.{hit, miss, none}
use Rattle.quick_flaws.specs.Flaws.{flaw, half_at, of_contact}
use Rattle.step_rules.specs.Step.{checks}
use Rattle.quick_flaws.proofs.flaw.Goals as goal

pub returns-then-wrong_bodies : goal.returns-then-wrong_bodies
unfolding flaw of_contact checks half_at
returns-then-wrong_bodies c = search hit

pub returns-then-wrong_count : goal.returns-then-wrong_count
unfolding flaw of_contact checks half_at
returns-then-wrong_count c = search (hit, miss)

pub returns-then-not_finite_by_turns : goal.returns-then-not_finite_by_turns
unfolding flaw of_contact checks half_at
returns-then-not_finite_by_turns c = search (hit, miss) depth 12

pub returns-then-out_of_range_by_turns : goal.returns-then-out_of_range_by_turns
unfolding flaw of_contact checks half_at
returns-then-out_of_range_by_turns c = search (hit, miss) depth 12

pub returns : goal.returns
unfolding flaw of_contact checks half_at
returns c = search (miss, none) depth 12
