-- Numbers 1 and 4 are not given to a text. Assumes nothing.
use Prim.Native.Nat.{ℕ, ◌*◌, ◌%◌, ◌≤◌}
use native.Mathlib.Omega.{arith}
use borrow.Author.Tests.{eq-eqb, le-ltb}
use mathlib.Core.Bool.{Bool, true, false}
use mathlib.Core.List.{[], ◌∷◌}
use mathlib.Core.Logic.{◌≢◌, ◌⊎◌, inl, inr}
use mathlib.Core.Path.{◌≡◌, refl, ◌∙◌}
use lib.ListN.{length, length-map, length-replicate}
use Rattle.base_places.specs.Places.{answer_width, body_width, floats_width, most_bodies, most_contacts, most_steps, numbers_width, step_width}
use Rattle.base_places.specs.Lengths.{program_steps}
use Rattle.base_refusals.specs.Refusals.{◌when◌, first}
use Rattle.base_rows.specs.Rows.{rows}
use Rattle.list_checks.specs.Checks.{some_uneven, too_many, whole_call, wrong_sizes}
use Rattle.call_rules.proofs.Demands.{how, is_number}
use Rattle.text_digits.specs.Bits.{value_of}
use Rattle.text_line.specs.Night.{Night}
use Rattle.text_held.specs.Held.{WholeRows}
use Rattle.text_held.proofs.Held.{tables_hold}
use Rattle.text_output.specs.Answer.{called, floats_of, lent, zeros}
use Rattle.text_output.specs.Refusals.{OnlyTwoOrThree}

module _ (t : Night) (h : WholeRows t) where
  many_bodies : length (floats_of t.bodies) ≡ h.b * body_width
  unfolding floats_of
  many_bodies = length-map t.bodies value_of ∙ h.bodies

  many_floats : length (floats_of t.floats) ≡ h.c * floats_width
  unfolding floats_of
  many_floats = length-map t.floats value_of ∙ h.floats

  much_room : length (lent t).room ≡ program_steps * answer_width
  unfolding lent zeros
  much_room = length-replicate {A = ℕ} (program_steps * answer_width) 0

  -- not 1: the tables are small enough, whole rows, and a contact's stretches have as many
  sizes : wrong_sizes (lent t).tables (lent t).steps (lent t).room ≡ false
  unfolding wrong_sizes too_many some_uneven lent
  sizes =
      rw (
        le-ltb most_bodies (rows body_width (floats_of t.bodies)) (omega (arith, many_bodies, h.few_bodies)),
        le-ltb most_contacts (rows floats_width (floats_of t.floats)) (omega (arith, many_floats, h.few_contacts)),
        le-ltb most_steps (rows step_width t.steps) (omega (arith, h.steps, h.few_steps)),
        eq-eqb (length (floats_of t.bodies) % body_width) 0 (omega (arith, many_bodies)),
        eq-eqb (length t.numbers % numbers_width) 0 (omega (arith, h.numbers)),
        eq-eqb (length (floats_of t.floats) % floats_width) 0 (omega (arith, many_floats)),
        eq-eqb (length t.steps % step_width) 0 (omega (arith, h.steps)),
        eq-eqb (length (zeros (program_steps * answer_width)) % answer_width) 0 (omega (arith, much_room)),
        eq-eqb (rows numbers_width t.numbers) (rows floats_width (floats_of t.floats)) (omega (arith, h.numbers, many_floats)),
      )

  -- not 4: there is room for as many answers as there are steps at most
  room : rows step_width (lent t).steps ≤ rows answer_width (lent t).room
  unfolding lent
  room = omega (arith, h.steps, h.few_steps, much_room)

-- so 2 or 3 is left
neither : (n : ℕ) (one two three four : Bool) → one ≡ false → four ≡ false → n ≡ first (1 when one ∷ 2 when two ∷ 3 when three ∷ 4 when four ∷ [])
    → n ≢ 0 → (n ≡ 2) ⊎ (n ≡ 3)
unfolding first
neither n one true three four no_one no-four is refused = inl (rw no_one at is)
neither n one false true four no_one no-four is refused = inr (rw no_one at is)
neither n one false false four no_one no-four is refused = absurd (refused (rw (no_one, no-four) at is))

pub only_two_or_three : OnlyTwoOrThree
unfolding called whole_call
only_two_or_three s line n t e refused =
    let h = tables_hold s line n t e in
    neither (called t).refusal (wrong_sizes (lent t).tables (lent t).steps (lent t).room) _ _ _ (sizes t h) (le-ltb _ _ (room t h))
    (is_number (lent t) _ (called t) refl (how (lent t) _ (called t) refl)) refused
