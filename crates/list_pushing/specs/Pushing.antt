-- Request E10, "Loads never pull", "For lists": any list of any kinds, on any tables, its refused steps and points that are not in use
-- included. Each statement is proved in proofs/Pushing.antt. Assumes nothing.
use Rattle.std.specs.Prelude.{ℕ, ◌<◌, List, ◌≡◌, Float}
use Rattle.base_places.specs.Places.{floats_width}
use Rattle.base_rows.specs.Rows.{rows}
use Rattle.base_order.specs.OneByOne.{finish}
use Rattle.elem_leaves.specs.Signs.{AtLeast0, NotBelow0}
use Rattle.elem_impulse.specs.Pushing.{Pushes}
use Rattle.step_contact.specs.Places.{Place, load, number}
use Rattle.list_tables.specs.Tables.{contact_at}
use Rattle.list_tables.specs.declared.Step.{Step}
use Rattle.list_rules.specs.Sweep.{Tables, its_contact, step_on}

-- the load of contact k at a place, as it stands in the tables
abbrev pub load_at : ℕ → Place → Tables → Float
load_at k x t = load x (contact_at t.numbers t.floats k)

-- every contact's loads
abbrev pub AllLoads : (Float → Type 0) → Tables → Type 0
AllLoads P t = (k : ℕ) → k < rows floats_width t.floats → (x : Place) → P (load_at k x t)

-- "if every contact starts with normal impulses not below 0, they stay so after any list of any kinds": P is that, or the stronger form
abbrev pub StaySo : (Float → Type 0) → Type 0
StaySo P = (steps : List Step) (t : Tables) → AllLoads P t → AllLoads P (finish step_on steps t)

pub record ListsPush : Type 0 where
  pub not_below : StaySo NotBelow0
  pub at_least : StaySo AtLeast0
  -- with nothing asked, and each load by itself, whatever the others are: it is what it was, or 0 or above
  pub each_load : (steps : List Step) (t : Tables) (k : ℕ) (x : Place) → Pushes (load_at k x t) (load_at k x (finish step_on steps t))
  -- a step that was answered 0 leaves its contact's loads in use at 0 or above, and so do all steps after it
  pub after_done : (s : Step) (steps : List Step) (t : Tables) → (step_on s t).answer.number ≡ 0 → (x : Place) → number x < (its_contact s t).head.count
      → AtLeast0 (load_at s.contact x (finish step_on steps (step_on s t).after))
