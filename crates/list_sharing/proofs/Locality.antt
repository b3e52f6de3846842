-- A step reads and writes only rows of its own. Assumes nothing.
use Prim.Native.Nat.{ℕ}
use mathlib.Core.Bool.{true}
use mathlib.Core.List.{List}
use mathlib.Core.Logic.{◌⊎◌, inl, inr}
use mathlib.Core.Path.{◌≡◌, refl, sym, ◌∙◌, ap, ap₂}
use Rattle.base_places.specs.Places.{body_width, floats_width, numbers_width}
use Rattle.base_words.proofs.Pick.{never}
use Rattle.elem_velocity.specs.declared.Vels.{Vels}
use Rattle.step_contact.proofs.Zeros.{zero_bodies}
use Rattle.step_shape.proofs.Bodies.{with_itself}
use Rattle.step_rules.specs.Step.{step}
use Rattle.step_rules.proofs.Chain.{wrong_bodies_first}
use Rattle.base_rows.specs.Rows.{row, rows}
use Rattle.list_tables.specs.Tables.{contact_of, vel_at}
use Rattle.list_tables.specs.declared.Step.{Step}
use Rattle.list_tables.proofs.Floats.{contact_there, same_vel}
use Rattle.base_order.specs.Local.{Agree, Local}
use Rattle.list_rules.specs.Sweep.{Tables, its_contact, outcome, step_on, vels_at}
use Rattle.list_rules.proofs.Done.{its_contact_lem, vels_are, vels_of}
use Rattle.list_rules.proofs.Rows.{after_bodies, after_floats, after_numbers, bodies_as_many, body_local, body_stays, contact_local, contact_stays, floats_as_many, same_answer, same_outcome}
use Rattle.list_sharing.specs.Own.{Place, Shape, body, contact, feet, look, shape, touches}
use Rattle.list_sharing.specs.Locality.{Frame, Locality, SameFor, SameShape}
use Rattle.list_sharing.specs.Sharing.{There}
use Rattle.list_sharing.proofs.Found.{done_found, reads_zero, there_or_not}
use Rattle.list_sharing.proofs.Whole.{nothing_hidden}
use Rattle.list_sharing.proofs.Own.{own_body, own_contact}

-- a shape is its three parts
shape_of : {n n' : List ℕ} {b b' c c' : ℕ} → n ≡ n' → b ≡ b' → c ≡ c'
    → ◌≡◌ {A = Shape} (record { numbers = n; bodies = b; contacts = c }) (record { numbers = n'; bodies = b'; contacts = c' })
shape_of p q r = cc

pub same_shape : SameShape
same_shape s t =
    shape_of (after_numbers s t) (ap (rows body_width) (after_bodies s t) ∙ bodies_as_many (its_contact s t).head (outcome s t) t.bodies)
    (ap (rows floats_width) (after_floats s t) ∙ floats_as_many s (outcome s t) t.floats)

pub frame : Frame
frame s t (body b) other =
    ap (row body_width b) (after_bodies s t)
    ∙ body_stays (its_contact s t).head (outcome s t) t.bodies b
    (λ d done side real in_table. never (sym (own_body t s b (record { there = done_found s t d done; side = side }) real in_table) ∙ other))
frame s t (contact k) other =
    ap (row floats_width k) (after_floats s t)
    ∙ contact_stays s (outcome s t) t.floats k (λ d done e. never (sym (own s (done_found s t d done) e) ∙ other))
  where
    own : (s : Step) → There t s.contact → k ≡ s.contact → touches (shape t) s (contact k) ≡ true
    own s h e = rw e (own_contact t s h)

-- tables that have the same where a step looks
module _ (s : Step) (t t' : Tables) (agree : SameFor s t t') where
  -- the step's contact is the same
  same_contact : its_contact s t' ≡ its_contact s t
  same_contact = by_case (there_or_not s t)
    where
      by_case : Dec (There t s.contact) → its_contact s t' ≡ its_contact s t
      by_case (yes h) =
          its_contact_lem s t'
          ∙ contact_there t'.numbers t'.floats s.contact (rw agree.as_many_numbers h.0) (rw agree.as_many_contacts h.1)
          ∙ ap₂ contact_of agree.own_numbers (agree.own_rows (contact s.contact) (own_contact t s h))
          ∙ sym (its_contact_lem s t ∙ contact_there t.numbers t.floats s.contact h.0 h.1)
      by_case (no nowhere) =
          reads_zero s t' (λ h. nowhere (rw (← agree.as_many_numbers) h.0, rw (← agree.as_many_contacts) h.1)) ∙ sym (reads_zero s t nowhere)

  -- and so are the velocities of its bodies, where it has a contact
  same_vels : There t s.contact → vels_at t'.bodies (its_contact s t).head ≡ vels_at t.bodies (its_contact s t).head
  same_vels h =
      let look_at : (b : ℕ) → (b ≡ (its_contact s t).head.body1) ⊎ (b ≡ (its_contact s t).head.body2) → vel_at t'.bodies b ≡ vel_at t.bodies b =
      λ b side. same_vel t.bodies b t'.bodies agree.as_many_bodies (λ real in_table. agree.own_rows (body b) (own_body t s b (record { there = h; side = side }) real in_table)) in
      vels_are t'.bodies (its_contact s t).head
      (look_at (its_contact s t).head.body1 (inl refl) ∙ sym (vels_of t.bodies (its_contact s t).head).0)
      (look_at (its_contact s t).head.body2 (inr refl) ∙ sym (vels_of t.bodies (its_contact s t).head).1)

  -- so the step on copies comes to the same
  same_tried : step (its_contact s t') s.kind (vels_at t'.bodies (its_contact s t').head) (rows body_width t'.bodies)
      ≡ step (its_contact s t) s.kind (vels_at t.bodies (its_contact s t).head) (rows body_width t.bodies)
  same_tried = rw (same_contact, agree.as_many_bodies) (by_case (there_or_not s t))
    where
      by_case : Dec (There t s.contact) → step (its_contact s t) s.kind (vels_at t'.bodies (its_contact s t).head) (rows body_width t.bodies)
          ≡ step (its_contact s t) s.kind (vels_at t.bodies (its_contact s t).head) (rows body_width t.bodies)
      by_case (yes h) = ap (λ (v : Vels). step (its_contact s t) s.kind v (rows body_width t.bodies)) (same_vels h)
      by_case (no nowhere) =
          wrong_bodies_first (its_contact s t) s.kind (vels_at t'.bodies (its_contact s t).head) (vels_at t.bodies (its_contact s t).head) (rows body_width t.bodies)
          (with_itself (its_contact s t).head (rows body_width t.bodies) (rw (reads_zero s t nowhere) zero_bodies))

  same : outcome s t' ≡ outcome s t
  same = same_outcome s t t' agree.as_many_contacts same_tried

  -- what it leaves in a row that was the same is the same
  leaves : (p : Place) → look p t' ≡ look p t → look p (step_on s t').after ≡ look p (step_on s t).after
  leaves (body b) e =
      ap (row body_width b) (after_bodies s t')
      ∙ rw (same_contact, same) (body_local (its_contact s t).head (outcome s t) t.bodies t'.bodies agree.as_many_bodies b e)
      ∙ sym (ap (row body_width b) (after_bodies s t))
  leaves (contact k) e =
      ap (row floats_width k) (after_floats s t')
      ∙ rw same (contact_local s (outcome s t) t.floats t'.floats agree.as_many_contacts k e)
      ∙ sym (ap (row floats_width k) (after_floats s t))

pub locality : Locality
locality s t t' agree = record {
  answer = same_answer s t t' (same s t t' agree);
  left = λ p own. leaves s t t' agree p (agree.own_rows p own);
}

-- tables of one shape that agree in a step's own rows have the same for it
same_for : (s : Step) (t t' : Tables) → Agree feet s t t' → SameFor s t t'
same_for s t t' agree = record {
  as_many_numbers = ap (λ (sh : Shape). rows numbers_width sh.numbers) agree.same_shape;
  as_many_contacts = ap (λ (sh : Shape). sh.contacts) agree.same_shape;
  as_many_bodies = ap (λ (sh : Shape). sh.bodies) agree.same_shape;
  own_numbers = ap (λ (sh : Shape). row numbers_width s.contact sh.numbers) agree.same_shape;
  own_rows = agree.same_there;
}

-- so the tables are a device whose steps read and write only places of their own
pub local : Local feet
local = record { shape_kept = same_shape; writes_own = frame; reads_own = λ s t t' agree. locality s t t' (same_for s t t' agree); all_there = nothing_hidden }
