-- The contact that a step names: in the table, or not. Assumes nothing.
use Prim.Native.Nat.{ℕ, ◌≤◌, ◌<◌}
use native.Mathlib.Decide.{dec_lt}
use native.Mathlib.Omega.{arith}
use mathlib.Core.Path.{◌≡◌, refl, sym, ◌∙◌}
use lib.ListN.{get_or}
use Rattle.base_places.specs.Places.{body_width, floats_width, numbers_width}
use Rattle.base_words.proofs.Pick.{never}
use Rattle.step_contact.specs.Contact.{contact_zero}
use Rattle.step_contact.proofs.Zeros.{zero_bodies}
use Rattle.step_kinds.specs.declared.ContactSolved.{ContactSolved}
use Rattle.step_shape.proofs.Bodies.{with_itself}
use Rattle.step_promises.proofs.Promises.{bodies_passed}
use Rattle.base_rows.specs.Rows.{row, rows}
use Rattle.list_tables.specs.Tables.{contact_at}
use Rattle.list_tables.specs.declared.Step.{Step}
use Rattle.list_tables.proofs.Contacts.{no_floats, no_numbers}
use Rattle.list_tables.proofs.Floats.{body_numbers}
use Rattle.list_rules.specs.Sweep.{Tables, its_contact, outcome, vels_at}
use Rattle.list_rules.proofs.Done.{done_there, its_contact_lem}
use Rattle.list_sharing.specs.Sharing.{There}
use Rattle.step_rules.specs.Step.{Done}

not_lt : (a b : ℕ) → ¬ (a < b) → b ≤ a
not_lt a b n = omega (arith, n)

module _ (s : Step) (t : Tables) where
  -- it is there or not
  pub there_or_not : Dec (There t s.contact)
  there_or_not = by_case (dec_lt s.contact (rows numbers_width t.numbers)) (dec_lt s.contact (rows floats_width t.floats))
    where
      by_case : Dec (s.contact < rows numbers_width t.numbers) → Dec (s.contact < rows floats_width t.floats) → Dec (There t s.contact)
      by_case (yes h) (yes i) = yes (h, i)
      by_case (yes h) (no i) = no (λ x. i x.1)
      by_case (no h) _ = no (λ x. h x.0)

  -- where it is not, the step reads a contact that joins a body with itself
  pub reads_zero : ¬ There t s.contact → its_contact s t ≡ contact_zero
  reads_zero nowhere = its_contact_lem s t ∙ sym (by_case (dec_lt s.contact (rows numbers_width t.numbers)))
    where
      by_case : Dec (s.contact < rows numbers_width t.numbers) → contact_zero ≡ contact_at t.numbers t.floats s.contact
      by_case (yes h) = no_floats t.numbers t.floats s.contact h (not_lt s.contact (rows floats_width t.floats) (λ i. nowhere (h, i))) refl
      by_case (no h) = no_numbers t.numbers t.floats s.contact (not_lt s.contact (rows numbers_width t.numbers) h) refl

  -- a done step's contact is there
  pub done_found : (d : ContactSolved) → outcome s t ≡ Done d → There t s.contact
  done_found d done = by_case there_or_not
    where
      by_case : Dec (There t s.contact) → There t s.contact
      by_case (yes h) = h
      by_case (no nowhere) =
          never (sym (with_itself (its_contact s t).head (rows body_width t.bodies) (rw (reads_zero nowhere) zero_bodies))
          ∙ bodies_passed (its_contact s t) s.kind (vels_at t.bodies (its_contact s t).head) (rows body_width t.bodies) d (done_there s t d done).1)

  -- its two bodies are those of its row of numbers
  pub numbers_of : There t s.contact
      → ((its_contact s t).head.body1 ≡ get_or (row numbers_width s.contact t.numbers) 0 0) × ((its_contact s t).head.body2 ≡ get_or (row numbers_width s.contact t.numbers) 1 0)
  numbers_of h = rw (its_contact_lem s t) (body_numbers t.numbers t.floats s.contact h.0 h.1)
