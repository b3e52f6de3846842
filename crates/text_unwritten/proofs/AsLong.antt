-- A call leaves as many floats of contacts as were lent, and their numbers as they were. Assumes nothing.
use Prim.Native.Nat.{ℕ}
use mathlib.Core.List.{List}
use mathlib.Core.Path.{◌≡◌, refl, ◌∙◌, ap}
use lib.Ieee.{Float}
use lib.ListN.{length, length-map}
use Rattle.list_tables.specs.declared.Step.{Step}
use Rattle.list_cells.proofs.Written as written
use Rattle.list_rules.specs.Sweep.{Tables, new_floats, outcome, step_on}
use Rattle.list_rules.proofs.Rows.{after_floats, after_numbers}
use Rattle.call_rules.specs.Call.{Ended, Lent}
use Rattle.call_rules.specs.Demands.{Demand2}
use Rattle.call_rules.proofs.Kept.{call_keeps}
use Rattle.text_digits.specs.Bits.{value_of}
use Rattle.text_line.specs.Night.{Night}
use Rattle.text_output.specs.Answer.{called, floats_of, lent}
use Rattle.step_rules.specs.Step.{Done, Outcome, Refused}

-- so does one step, done or refused
new_as_long : (s : Step) (o : Outcome) (floats : List Float) → length (new_floats s o floats) ≡ length floats
unfolding new_floats
new_as_long s (Refused number) floats = refl
new_as_long s (Done d) floats = written.floats_as_long floats s.contact s.kind d.contact

step_as_long : (s : Step) (now : Tables) → length (step_on s now).after.floats ≡ length now.floats
step_as_long s now = ap length (after_floats s now) ∙ new_as_long s (outcome s now) now.floats

-- so a call does, and leaves their numbers as they were
module _ (lent : Lent) (budget : ℕ) (e : Ended) (so : Demand2 lent budget e) where
  floats_as_long : length e.tables.floats ≡ length lent.tables.floats
  floats_as_long =
      call_keeps (λ (now : Tables). length now.floats ≡ length lent.tables.floats) (λ s now so_far. step_as_long s now ∙ so_far) lent budget e so refl

  same_numbers : e.tables.numbers ≡ lent.tables.numbers
  same_numbers = call_keeps (λ (now : Tables). now.numbers ≡ lent.tables.numbers) (λ s now so_far. after_numbers s now ∙ so_far) lent budget e so refl

-- of a night that was read: as many as there are bits of them
pub called_as_long : (t : Night) → length (called t).tables.floats ≡ length t.floats
unfolding called lent floats_of
called_as_long t = floats_as_long (lent t) _ (called t) refl ∙ length-map t.floats value_of

pub called_numbers : (t : Night) → (called t).tables.numbers ≡ t.numbers
unfolding called lent
called_numbers t = same_numbers (lent t) _ (called t) refl
