-- The statement of specs/Flaws.antt: a contact that is vouched for stays so. Assumes nothing.
use Prim.Native.Nat.{ℕ}
use mathlib.Core.Path.{◌≡◌, refl, ap, ◌∙◌}
use mathlib.Core.Bool.{Bool, true, false, not}
use borrow.Author.Tests.{eqb-true, ltb-true}
use lib.Dec.{ltb}
use Rattle.base_words.proofs.Said.{none_l, none_r, so}
use Rattle.base_refusals.specs.Refusals.{first}
use Rattle.base_refusals.specs.Distinct.{distinct, stands}
use Rattle.base_refusals.proofs.Exact.{none_holds}
use Rattle.base_places.specs.declared.Cell.{Cell}
use Rattle.elem_leaves.specs.Signs.{NotBelow0}
use Rattle.elem_leaves.proofs.Signs.{not_below}
use Rattle.step_contact.specs.declared.Contact.{Contact}
use Rattle.step_contact.specs.declared.ContactHead.{ContactHead}
use Rattle.step_kinds.proofs.Keeps.{same_head, stored_point}
use Rattle.step_contact.specs.Places.{Place, at_a, at_b, load, number, point}
use Rattle.step_kinds.specs.Table.{stores}
use Rattle.step_kinds.specs.Stored.{stored}
use Rattle.step_kinds.specs.declared.ContactSolved.{ContactSolved}
use Rattle.step_shape.specs.Shape.{wrong_bodies, wrong_count}
use Rattle.step_values.proofs.Passed.{not_at}
use Rattle.step_values.specs.Values.{finite_head, finite_point, head_out, not_finite, out_of_range, point_out, some_point}
use Rattle.step_rules.specs.Step.{checks}
use Rattle.step_promises.proofs.Promises.{bodies_passed, finite_done, known, same_head_kept, untouched}
use Rattle.step_promises.proofs.Pushing.{done_loads}
use Rattle.step_promises.specs.Promises.{FiniteCells, FiniteResult}
use Rattle.quick_flaws.proofs.Kept.{none_at, point_stays_finite, point_stays_in_range}
use Rattle.quick_flaws.proofs.Turns.{neither}
use Rattle.quick_flaws.specs.Flaws.{StaysVouched, flaw, half_at, of_contact, vouched}

-- what it is to be vouched for, one number after the other
pub record Passed (rows : ℕ) (c : Contact) : Type 0 where
  pub bodies : wrong_bodies c.head rows ≡ false
  pub count : wrong_count c.head ≡ false
  pub numbers : not_finite c ≡ false
  pub range : out_of_range c ≡ false

module _ (rows : ℕ) (c : Contact) where
  -- the four numbers that look at the contact are distinct
  numbers_apart : distinct (of_contact checks c rows) ≡ true
  unfolding distinct stands of_contact checks half_at
  numbers_apart = refl

  pub passed : vouched rows c ≡ true → Passed rows c
  unfolding vouched flaw of_contact checks half_at
  passed e =
      let none = none_holds (of_contact checks c rows) numbers_apart (eqb-true (flaw rows c) 0 e) in
      record { bodies = none.0; count = none.1.0; numbers = none.1.1.0; range = none.1.1.1.0 }

  pub vouch_for : Passed rows c → vouched rows c ≡ true
  unfolding vouched flaw of_contact checks half_at first
  vouch_for p = rw (p.bodies, p.count, p.numbers, p.range)

-- what a done step leaves: d for c, some cells stored
module _ (which : Cell → Bool) (c d : Contact) (is_stored : d ≡ stored which c d) where
  abbrev head_kept : d.head ≡ c.head
  head_kept = same_head which c d is_stored

  old_below : (x : Place) → ltb (number x) d.head.count ≡ true → ltb (number x) c.head.count ≡ true
  old_below x below = rw (← head_kept) below

  points_stay_finite : some_point (λ p. not (finite_point p)) c ≡ false
      → ((x : Place) → ltb (number x) d.head.count ≡ true → FiniteCells (point x d))
      → some_point (λ p. not (finite_point p)) d ≡ false
  points_stay_finite old new =
      none_at (λ p. not (finite_point p)) d (λ x below.
      let was = old_below x below in
      let f = so (finite_point (point x c)) (not_at (λ p. not (finite_point p)) c old x was) in
      ap not (point_stays_finite which (point x c) (point x d) (stored_point which c d is_stored x was) f (new x below)))

  points_stay_in_range : some_point (point_out c.head) c ≡ false → ((x : Place) → ltb (number x) c.head.count ≡ true → NotBelow0 (load x d))
      → some_point (point_out d.head) d ≡ false
  points_stay_in_range old new =
      none_at (point_out d.head) d (λ x below.
      let was = old_below x below in
      let kept = point_stays_in_range which (point x c) (point x d) (stored_point which c d is_stored x was) c.head
      (not_at (point_out c.head) c old x was) (new x was) in
      ap (λ (h : ContactHead). point_out h (point x d)) head_kept ∙ kept)

-- every point below count has finite cells, as a done step's promise has it
at_points : (s : ContactSolved) → FiniteResult s → (x : Place) → ltb (number x) s.contact.head.count ≡ true → FiniteCells (point x s.contact)
at_points s f at_a below = f.at_a (ltb-true 0 s.contact.head.count below)
at_points s f at_b below = f.at_b (ltb-true 1 s.contact.head.count below)

pub stays_vouched : StaysVouched
unfolding not_finite out_of_range
stays_vouched c kind v rows s e =
    let d = s.contact in
    let k = known c kind v rows s e in
    let stored_in_lem = untouched c kind v rows s e in
    let head : d.head ≡ c.head = same_head_kept c kind v rows s e in
    let wrong_head = not (finite_head c.head) in
    let wrong_points = some_point (λ p. not (finite_point p)) c in
    let points = points_stay_finite (stores kind) c d stored_in_lem (none_r wrong_head wrong_points k.read_finite) (at_points s (finite_done c kind v rows s e)) in
    let range = points_stay_in_range (stores kind) c d stored_in_lem
    (none_r (head_out c.head) (some_point (point_out c.head) c) k.in_range)
    (λ x below. not_below (load x d) (done_loads c kind v rows s e x (ltb-true (number x) c.head.count below))) in
    vouch_for rows d (record {
      bodies = rw head (bodies_passed c kind v rows s e);
      count = rw head k.counted;
      numbers = neither (ap (λ (h : ContactHead). not (finite_head h)) head ∙ none_l wrong_head wrong_points k.read_finite) points;
      range = neither (ap head_out head ∙ none_l (head_out c.head) (some_point (point_out c.head) c) k.in_range) range;
    })
