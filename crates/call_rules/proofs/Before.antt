-- The tables before a step, one step after the other. Assumes nothing.
use Prim.Native.Nat.{ℕ, suc, ◌<◌}
use mathlib.Core.Path.{◌≡◌}
use Rattle.base_places.specs.Places.{step_width}
use Rattle.base_rows.specs.Rows.{rows}
use Rattle.base_order.proofs.Snoc.{finish_none, finish_snoc}
use Rattle.list_tables.specs.Tables.{step_at}
use Rattle.list_rules.specs.Sweep.{first_steps, step_on}
use Rattle.list_rules.proofs.Going.{first_more, first_none}
use Rattle.call_rules.specs.Call.{Lent}
use Rattle.call_rules.specs.Demands.{before}

-- the tables before the first step, and before the next one
pub before_none : (lent : Lent) → before lent 0 ≡ lent.tables
unfolding before
before_none lent = rw (first_none lent.steps) (finish_none step_on lent.tables)

pub before_more : (lent : Lent) (n : ℕ) → n < rows step_width lent.steps → before lent (suc n) ≡ (step_on (step_at lent.steps n) (before lent n)).after
unfolding before
before_more lent n within =
    rw (first_more lent.steps n within) (finish_snoc step_on (first_steps lent.steps n) (step_at lent.steps n) lent.tables)
