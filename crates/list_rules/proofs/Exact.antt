-- The statement of specs/Exact.antt: a step on the tables answers the first of its conditions. Assumes nothing.
use mathlib.Core.Bool.{Bool, true, false, not}
use mathlib.Core.List.{List, ◌∷◌}
use mathlib.Core.Path.{◌≡◌, refl, ◌∙◌}
use lib.Dec.{ltb}
use Rattle.base_places.specs.Places.{body_width, floats_width}
use Rattle.base_words.specs.Choice.{if◌then◌otherwise◌}
use Rattle.base_refusals.specs.Refusals.{Condition, ◌when◌, first}
use Rattle.base_refusals.specs.Distinct.{distinct, stands}
use Rattle.base_refusals.proofs.Chain.{hit, miss}
use Rattle.base_refusals.proofs.Exact.{exactly}
use Rattle.step_contact.specs.declared.Contact.{Contact}
use Rattle.step_rules.specs.Step.{answer, as_read, asked, checks, conditions, step}
use Rattle.step_promises.proofs.Promises.{answers_first}
use Rattle.base_rows.specs.Rows.{rows}
use Rattle.list_tables.specs.declared.Step.{Step}
use Rattle.list_rules.specs.Exact.{ExactOnTables}
use Rattle.list_rules.specs.Sweep.{Tables, its_contact, of_step, step_on, vels_at}
use Rattle.list_rules.proofs.Steps.{number_of}

module _ (s : Step) (t : Tables) where
  pub number_first : (step_on s t).answer.number ≡ first (of_step s t)
  unfolding of_step
  number_first = number_of s t ∙ by_case (ltb s.contact (rows floats_width t.floats))
    where
      c : Contact
      c = its_contact s t

      later : List Condition
      later = conditions c s.kind (as_read c.head (vels_at t.bodies c.head)) (rows body_width t.bodies)

      by_case : (b : Bool) → (if b then answer (step c s.kind (vels_at t.bodies c.head) (rows body_width t.bodies)) otherwise 2) ≡ first (2 when not b ∷ later)
      by_case true = miss 2 later refl refl (answers_first c s.kind (vels_at t.bodies c.head) (rows body_width t.bodies))
      by_case false = hit 2 later refl refl

  -- each number stands once
  distinct_numbers : distinct (of_step s t) ≡ true
  unfolding of_step conditions asked checks distinct stands
  distinct_numbers = refl

pub exact_on_tables : ExactOnTables
exact_on_tables s t = rw (number_first s t) (exactly (of_step s t) (distinct_numbers s t))
