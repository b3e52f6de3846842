-- Request E10, "Loads never pull", of everything that a call may leave: `lent` is what was lent to it, `e` what it left. Proved in
-- proofs/Pushing.antt. Assumes nothing.
use Rattle.std.specs.Prelude.{ℕ, ◌<◌, ◌≡◌}
use Rattle.elem_leaves.specs.Signs.{AtLeast0, NotBelow0}
use Rattle.elem_impulse.specs.Pushing.{Pushes}
use Rattle.step_contact.specs.Places.{Place, number}
use Rattle.list_tables.specs.Tables.{contact_at, step_at}
use Rattle.list_pushing.specs.Pushing.{AllLoads, load_at}
use Rattle.call_rules.specs.Call.{Ended, Lent}
use Rattle.call_rules.specs.Demands.{Demand2, number_of}

pub record CallPushes (lent : Lent) (e : Ended) : Type 0 where
  -- where every contact's normal impulses were not below 0, they are not; and the same of 0 or above
  pub not_below : AllLoads NotBelow0 lent.tables → AllLoads NotBelow0 e.tables
  pub at_least : AllLoads AtLeast0 lent.tables → AllLoads AtLeast0 e.tables
  -- with nothing asked: each is what it was, or 0 or above ..
  pub each_load : (k : ℕ) (x : Place) → Pushes (load_at k x lent.tables) (load_at k x e.tables)
  -- .. and those in use of a contact are 0 or above, where some step on it was answered 0
  pub where_done : (i : ℕ) → i < e.done → number_of i e ≡ 0
      → let k = (step_at lent.steps i).contact in
      (x : Place) → number x < (contact_at lent.tables.numbers lent.tables.floats k).head.count → AtLeast0 (load_at k x e.tables)

-- of whatever meets the call's contract
abbrev pub CallsPush : Type 0
CallsPush = (lent : Lent) (budget : ℕ) (e : Ended) → Demand2 lent budget e → CallPushes lent e
