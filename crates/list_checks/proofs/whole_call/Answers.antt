-- `list_checks::whole_call` meets its contract. One condition after the other. Assumes nothing.
use Rattle.base_refusals.proofs.Chain.{hit, miss, none}
use borrow.Author.Tests.{lt-ltb, le-ltb}
use Rattle.list_checks.specs.Checks.{whole_call}
use Rattle.list_checks.proofs.Some.{some_contact, some_kind}
use Rattle.list_checks.proofs.whole_call.Goals as goal

pub returns-then-wrong_sizes : goal.returns-then-wrong_sizes
unfolding whole_call
returns-then-wrong_sizes c = search (hit, miss)

pub returns-then-no_contact : goal.returns-then-no_contact
unfolding whole_call
returns-then-no_contact c = search (hit, miss, some_contact)

pub returns-then-no_kind : goal.returns-then-no_kind
unfolding whole_call
returns-then-no_kind c = search (hit, miss, some_contact, some_kind)

pub returns-then-room-steps : goal.returns-then-room-steps
unfolding whole_call
returns-then-room-steps c = search (hit, miss, lt-ltb, some_contact, some_kind)

pub returns : goal.returns
unfolding whole_call
returns c =
    let enough = le-ltb _ _ c.if-room-steps.false in search (miss, none, some_contact, some_kind)
