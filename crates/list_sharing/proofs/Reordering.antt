-- Demand 3 of lists of steps on the tables. Assumes nothing.
use Rattle.list_tables.specs.Tables.{step_as}
use Rattle.base_order.proofs.Commuting.{any_order}
use Rattle.base_order.proofs.Reorder.{fewer}
use Rattle.list_sharing.specs.Own.{feet}
use Rattle.list_sharing.specs.Reordering.{ListsReordered, no_answer}
use Rattle.list_sharing.proofs.Locality.{local}
use Rattle.list_sharing.proofs.Sharing.{shared_means}

pub lists_reordered : ListsReordered
lists_reordered xs ys t m = any_order feet local (step_as 0 0) no_answer xs ys t (fewer (λ s u x. (shared_means t s u).0 x) m)
