-- `quick_step::its_contact` meets its contract. Its count is 1, or it is 2. Assumes nothing.
use Rattle.quick_step.proofs.There.{counted}
use Rattle.quick_step.proofs.its_contact.Goals as goal

pub one_or_two-requires : goal.one_or_two-requires
one_or_two-requires c = search counted
