-- The statements of specs/ReadBack.antt. Assumes nothing.
use Prim.Native.Nat.{ℕ, ◌*◌, ◌<◌}
use native.Mathlib.Omega.{arith}
use native.Mathlib.Decide.{dec_lt, ℕ_discrete}
use mathlib.Core.Bool.{true, false}
use mathlib.Core.List.{List}
use mathlib.Core.Logic.{◌≢◌, ◌⊎◌, inl, inr}
use mathlib.Core.Path.{◌≡◌, refl, sym, ◌∙◌, ap}
use lib.Ieee.{Float}
use Rattle.base_places.specs.Places.{body_width, floats_width, numbers_width}
use Rattle.elem_velocity.specs.Velocity.{rest}
use Rattle.elem_velocity.specs.declared.Vels.{Vels}
use Rattle.step_contact.specs.Contact.{is_floor}
use Rattle.step_contact.specs.declared.Contact.{Contact}
use Rattle.step_contact.specs.declared.ContactHead.{ContactHead}
use Rattle.step_kinds.specs.Table.{stores}
use Rattle.step_kinds.specs.Stored.{stored}
use Rattle.step_kinds.specs.declared.ContactSolved.{ContactSolved}
use Rattle.step_shape.proofs.Bodies.{RightBodies, in_table, right_bodies}
use Rattle.step_rules.specs.Step.{Done, Outcome, Refused, step}
use Rattle.step_rules.proofs.Chain.{not_both}
use Rattle.step_promises.specs.Promises.{FloorSides}
use Rattle.step_promises.proofs.Promises.{bodies_passed, floor_kept, same_head_kept, untouched}
use Rattle.base_rows.specs.Rows.{read_row, row, rows}
use Rattle.base_rows.proofs.Laws.{row_fits}
use Rattle.base_rows.proofs.Parts.{length_part}
use Rattle.list_tables.specs.Tables.{contact_at, contact_of}
use Rattle.list_tables.proofs.Floats.{contact_there, floor_rests}
use Rattle.list_tables.proofs.Contacts.{no_numbers}
use Rattle.list_cells.specs.Cells.{put_impulses, put_vel}
use Rattle.list_cells.proofs.Written.{bodies_as_long, floats_as_long, impulses_written}
use Rattle.list_cells.proofs.Back.{contact_back, other_stays, own_back, zero_stays}
use Rattle.list_tables.specs.declared.Step.{Step}
use Rattle.list_rules.specs.Sweep.{Tables, its_contact, outcome, step_on, vels_at}
use Rattle.list_rules.proofs.Done.{bodies_after, contact_after, done_there, its_contact_lem, vels_are, vels_of}
use Rattle.list_rules.proofs.Rows.{after_floats, after_numbers, contact_stays, floats_as_many}
use Rattle.list_readback.specs.ReadBack.{ContactReadBack, EachContact, Own, VelocitiesReadBack}

module _ (numbers : List ℕ) (floats : List Float) (k kind : ℕ) (new : Contact) (there : k < rows floats_width floats)
    (head : new.head ≡ (contact_at numbers floats k).head) where
  -- the floats with them
  abbrev written : List Float
  written = put_impulses floats k kind new

  -- contact k with new impulses, read again, whether its row of numbers is there or not
  row_back : contact_at numbers written k ≡ stored (stores kind) (contact_at numbers floats k) new
  row_back = by_case (dec_lt k (rows numbers_width numbers))
    where
      by_case : Dec (k < rows numbers_width numbers) → contact_at numbers written k ≡ stored (stores kind) (contact_at numbers floats k) new
      by_case (yes h) =
          let before : contact_at numbers floats k ≡ contact_of (row numbers_width k numbers) (row floats_width k floats) = contact_there numbers floats k h there in
          contact_there numbers written k h (rw (floats_as_long floats k kind new) there)
          ∙ ap (contact_of (row numbers_width k numbers)) (impulses_written floats k kind new there)
          ∙ contact_back (row numbers_width k numbers) kind new (row floats_width k floats)
          (length_part (k * floats_width) floats_width floats (row_fits floats_width k (λ l. l) floats there)) (head ∙ ap (λ (c : Contact). c.head) before)
          ∙ sym (ap (λ (c : Contact). stored (stores kind) c new) before)
      by_case (no past) =
          sym (no_numbers numbers written k (omega arith) refl)
          ∙ sym (zero_stays (stores kind) new)
          ∙ ap (λ (c : Contact). stored (stores kind) c new) (no_numbers numbers floats k (omega arith) refl)

-- the step's contact, with its new impulses
pub contact_read_back : ContactReadBack
contact_read_back s t d done =
    let c = its_contact s t in
    let v = vels_at t.bodies c.head in
    let copies = done_there s t d done in
    let same : c ≡ contact_at t.numbers t.floats s.contact = its_contact_lem s t in
    let head = same_head_kept c s.kind v (rows body_width t.bodies) d copies.1 in
    contact_after s t d done
    ∙ row_back t.numbers t.floats s.contact s.kind d.contact copies.0 (head ∙ ap (λ (x : Contact). x.head) same)
    ∙ sym (ap (λ (x : Contact). stored (stores s.kind) x d.contact) same)
    ∙ sym (untouched c s.kind v (rows body_width t.bodies) d copies.1)

-- every other contact reads as it did
module _ (s : Step) (t : Tables) where
  abbrev after : Tables
  after = (step_on s t).after

  other_contact : (k : ℕ) → ((d : ContactSolved) → outcome s t ≡ Done d → k ≢ s.contact)
      → contact_at after.numbers after.floats k ≡ contact_at t.numbers t.floats k
  unfolding contact_at read_row
  other_contact k other =
      let as_many = ap (λ l. rows floats_width l) (after_floats s t) ∙ floats_as_many s (outcome s t) t.floats in
      let same = ap (λ l. row floats_width k l) (after_floats s t) ∙ contact_stays s (outcome s t) t.floats k other in
      rw (after_numbers s t, as_many, same)

pub each_contact : EachContact
each_contact s t k = by_outcome (outcome s t) refl
  where
    Became : Type 0
    Became =
        (contact_at (step_on s t).after.numbers (step_on s t).after.floats k ≡ contact_at t.numbers t.floats k)
        ⊎ Own s t k (contact_at (step_on s t).after.numbers (step_on s t).after.floats k)

    by_place : (d : ContactSolved) → outcome s t ≡ Done d → Dec (k ≡ s.contact) → Became
    by_place d e (yes same) =
        inr (record { gave = d; done = e; own = same; is = rw same (sym (its_contact_lem s (step_on s t).after) ∙ contact_read_back s t d e) })
    by_place d e (no differ) = inl (other_contact s t k (λ _ _. differ))

    by_outcome : (o : Outcome) → outcome s t ≡ o → Became
    by_outcome (Refused n) e = inl (other_contact s t k (λ d done. not_both (sym e ∙ done)))
    by_outcome (Done d) e = by_place d e (ℕ_discrete k s.contact)

-- the velocities of its bodies; the floor's is rest
pub velocities_read_back : VelocitiesReadBack
velocities_read_back s t d done =
    rw (same_head_kept c s.kind v n d copies, bodies_after s t d done)
    (vels_are after2 h
    (other_stays after1 h.body2 d.vels.v2 h.body1 right.differ ∙ own_back t.bodies h.body1 d.vels.v1 still1 there1)
    (own_back after1 h.body2 d.vels.v2 still2 there2))
  where
    c : Contact
    c = its_contact s t

    h : ContactHead
    h = c.head

    v : Vels
    v = vels_at t.bodies h

    n : ℕ
    n = rows body_width t.bodies

    copies : step c s.kind v n ≡ Done d
    copies = (done_there s t d done).1

    right : RightBodies h n
    right = right_bodies h n (bodies_passed c s.kind v n d copies)

    -- after the first body is written, and the second
    after1 : List Float
    after1 = put_vel t.bodies h.body1 d.vels.v1

    after2 : List Float
    after2 = put_vel after1 h.body2 d.vels.v2

    kept : FloorSides c v d.vels
    kept = floor_kept c s.kind v n d copies

    still1 : is_floor h.body1 ≡ true → d.vels.v1 ≡ rest
    still1 floor = kept.side1 floor ∙ (vels_of t.bodies h).0 ∙ floor_rests t.bodies h.body1 floor

    still2 : is_floor h.body2 ≡ true → d.vels.v2 ≡ rest
    still2 floor = kept.side2 floor ∙ (vels_of t.bodies h).1 ∙ floor_rests t.bodies h.body2 floor

    there1 : is_floor h.body1 ≡ false → h.body1 < rows body_width t.bodies
    there1 real = in_table h.body1 n right.found1 real

    there2 : is_floor h.body2 ≡ false → h.body2 < rows body_width after1
    there2 real = rw (bodies_as_long t.bodies h.body1 d.vels.v1) (in_table h.body2 n right.found2 real)
