-- A contact that is trusted stays so, whatever step is done. Assumes nothing.
use Prim.Native.Nat.{ℕ, ◌<◌}
use native.Mathlib.Omega.{arith}
use native.Mathlib.Decide.{dec_lt, ℕ_discrete}
use mathlib.Core.Bool.{true, false, not}
use mathlib.Core.List.{List}
use mathlib.Core.Logic.{◌⊎◌, inl, inr}
use mathlib.Core.Path.{◌≡◌, refl, sym, ap, ◌∙◌}
use borrow.Author.Tests.{ne_eqb}
use lib.Ieee.{Float}
use Rattle.base_places.specs.Places.{body_width}
use Rattle.base_words.proofs.Pick.{never}
use Rattle.base_words.proofs.Said.{none_l, none_r, so}
use Rattle.base_rows.specs.Rows.{rows}
use Rattle.elem_velocity.specs.declared.SolverVel.{SolverVel}
use Rattle.step_contact.specs.Contact.{is_floor}
use Rattle.step_contact.specs.declared.ContactHead.{ContactHead}
use Rattle.step_contact.specs.declared.Contact.{Contact}
use Rattle.step_promises.proofs.Promises.{finite_done, same_head_kept}
use Rattle.step_values.specs.Values.{finite_vel, not_finite_vels}
use Rattle.list_tables.specs.Tables.{contact_at, vel_at}
use Rattle.list_tables.specs.declared.Step.{Step}
use Rattle.list_cells.proofs.Back.{other_stays, own_back}
use Rattle.list_cells.proofs.Put.{vel_of_floor, vel_past}
use Rattle.list_cells.specs.Cells.{put_vel}
use Rattle.list_rules.specs.Sweep.{Tables, its_contact, new_bodies, outcome, step_on, vels_at}
use Rattle.list_rules.proofs.Done.{done_there, its_contact_lem, vels_of}
use Rattle.list_rules.proofs.Rows.{after_bodies, bodies_as_many}
use Rattle.list_readback.specs.ReadBack.{Own}
use Rattle.list_readback.proofs.ReadBack.{each_contact}
use Rattle.quick_flaws.proofs.Stays.{stays_vouched}
use Rattle.quick_flaws.specs.Flaws.{vouched}
use Rattle.quick_step.specs.Trusted.{Trusted}
use Rattle.step_rules.specs.Step.{Done, Outcome, Refused}

-- a body's velocity stays finite where a finite one, or the floor's, is written
put_finite : (bodies : List Float) (body : ℕ) (v : SolverVel) (m : ℕ) → (is_floor body ≡ false → finite_vel v ≡ true) → finite_vel (vel_at bodies m) ≡ true
    → finite_vel (vel_at (put_vel bodies body v) m) ≡ true
put_finite bodies body v m new was = by_case (ℕ_discrete m body) (ℕ_discrete body 65535) (dec_lt body (rows body_width bodies))
  where
    unwritten : bodies ≡ put_vel bodies body v → finite_vel (vel_at (put_vel bodies body v) m) ≡ true
    unwritten same = ap (λ (l : List Float). finite_vel (vel_at l m)) (sym same) ∙ was

    by_case : Dec (m ≡ body) → Dec (body ≡ 65535) → Dec (body < rows body_width bodies) → finite_vel (vel_at (put_vel bodies body v) m) ≡ true
    by_case (no ne) _ _ = ap finite_vel (other_stays bodies body v m ne) ∙ was
    by_case (yes e) (yes floor) _ = unwritten (vel_of_floor bodies body v floor)
    by_case (yes e) (no real) (no past) = unwritten (vel_past bodies body v real (omega (arith, past)))
    by_case (yes e) (no real) (yes there) =
        let not_floor = ne_eqb body 65535 real in
        rw e (ap finite_vel (own_back bodies body v (λ floor. never (sym floor ∙ not_floor)) (λ _. there)) ∙ new not_floor)

-- the velocities of a contact's bodies are finite where each is
finite_both : (bodies : List Float) (h : ContactHead) → finite_vel (vel_at bodies h.body1) ≡ true → finite_vel (vel_at bodies h.body2) ≡ true
    → not_finite_vels (vels_at bodies h) ≡ false
unfolding not_finite_vels
finite_both bodies h one two = let are = vels_of bodies h in rw (are.0, are.1, one, two) refl

finite_each : (bodies : List Float) (h : ContactHead) → not_finite_vels (vels_at bodies h) ≡ false
    → (finite_vel (vel_at bodies h.body1) ≡ true) × (finite_vel (vel_at bodies h.body2) ≡ true)
unfolding not_finite_vels
finite_each bodies h e =
    let are = vels_of bodies h in
    let f = finite_vel (vels_at bodies h).v1 in
    let g = finite_vel (vels_at bodies h).v2 in
    (ap finite_vel (sym are.0) ∙ so f (none_l (not f) (not g) e), ap finite_vel (sym are.1) ∙ so g (none_r (not f) (not g) e))

-- what a step leaves
module _ (s : Step) (t : Tables) where
  abbrev after : Tables
  after = (step_on s t).after

  as_many_bodies : rows body_width after.bodies ≡ rows body_width t.bodies
  as_many_bodies = ap (λ l. rows body_width l) (after_bodies s t) ∙ bodies_as_many (its_contact s t).head (outcome s t) t.bodies

  -- a velocity that is finite stays so
  body_stays : (m : ℕ) → finite_vel (vel_at t.bodies m) ≡ true → finite_vel (vel_at after.bodies m) ≡ true
  unfolding new_bodies
  body_stays m was = rw (after_bodies s t) (by_case (outcome s t) refl)
    where
      by_case : (o : Outcome) → outcome s t ≡ o → finite_vel (vel_at (new_bodies (its_contact s t).head o t.bodies) m) ≡ true
      by_case (Refused n) e = was
      by_case (Done d) e =
          let c = its_contact s t in
          let done = (done_there s t d e).1 in
          let v = vels_at t.bodies c.head in
          let finite = finite_done c s.kind v (rows body_width t.bodies) d done in
          let head = same_head_kept c s.kind v (rows body_width t.bodies) d done in
          put_finite (put_vel t.bodies c.head.body1 d.vels.v1) c.head.body2 d.vels.v2 m (rw head at finite.velocity2)
          (put_finite t.bodies c.head.body1 d.vels.v1 m (rw head at finite.velocity1) was)

  module _ (k : ℕ) (trust : Trusted t k) where
    abbrev old : Contact
    old = contact_at t.numbers t.floats k

    abbrev new : Contact
    new = contact_at after.numbers after.floats k

    -- the contact is without a flaw, and names the same bodies
    record Kept : Type 0 where
      pub sound : vouched (rows body_width t.bodies) new ≡ true
      pub head : new.head ≡ old.head

    contact_stays : new ≡ old ⊎ Own s t k new → Kept
    contact_stays (inl same) = record { sound = rw same trust.sound; head = ap (λ (c : Contact). c.head) same }
    contact_stays (inr mine) =
        let c = its_contact s t in
        let v = vels_at t.bodies c.head in
        let done = (done_there s t mine.gave mine.done).1 in
        record {
          sound = rw mine.is (stays_vouched c s.kind v (rows body_width t.bodies) mine.gave done);
          head = ap (λ (c : Contact). c.head) mine.is ∙ same_head_kept c s.kind v (rows body_width t.bodies) mine.gave done ∙ is_own mine.own;
        }
      where
        is_own : k ≡ s.contact → (its_contact s t).head ≡ old.head
        is_own e = ap (λ (c : Contact). c.head) (its_contact_lem s t) ∙ ap (λ (n : ℕ). (contact_at t.numbers t.floats n).head) (sym e)

  pub stays_trusted : (k : ℕ) → Trusted t k → Trusted after k
  stays_trusted k trust =
      let kept = contact_stays k trust (each_contact s t k) in
      let was = finite_each t.bodies (old k trust).head trust.moving in
      record {
        sound = rw as_many_bodies kept.sound;
        moving = rw kept.head (finite_both after.bodies (old k trust).head (body_stays (old k trust).head.body1 was.0) (body_stays (old k trust).head.body2 was.1));
      }
