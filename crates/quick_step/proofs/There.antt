-- What a trusted contact has: its rows, its bodies, one point or two. Assumes nothing.
use Prim.Native.Nat.{ℕ, ◌<◌}
use native.Mathlib.Omega.{arith}
use native.Mathlib.Decide.{dec_lt}
use mathlib.Core.Bool.{Bool, true, false, not, ◌||◌}
use mathlib.Core.List.{List}
use mathlib.Core.Path.{◌≡◌, refl}
use borrow.Author.Tests.{eqb-true, ltb-true, ne_eqb}
use lib.Dec.{eqb, ltb}
use lib.Ieee.{Float}
use lib.ListN.{length}
use Rattle.base_places.specs.Places.{body_width, floats_width, numbers_width}
use Rattle.base_words.proofs.Pick.{never}
use Rattle.base_words.proofs.Said.{none_l, none_r, so}
use Rattle.base_rows.specs.Rows.{rows}
use Rattle.step_contact.specs.Contact.{contact_zero, head_zero}
use Rattle.step_contact.specs.declared.Contact.{Contact}
use Rattle.step_contact.specs.declared.ContactHead.{ContactHead}
use Rattle.step_shape.specs.Shape.{nowhere, wrong_bodies, wrong_count}
use Rattle.list_tables.specs.Tables.{contact_at}
use Rattle.list_tables.proofs.Contacts.{no_floats, no_numbers}
use Rattle.quick_flaws.proofs.Stays.{passed}
use Rattle.quick_flaws.specs.Flaws.{vouched}
use Rattle.list_rules.specs.Sweep.{tables}
use Rattle.quick_step.specs.Trusted.{Trusted}

-- 5: a body is there, or it is the floor
body_there : (body n : ℕ) → nowhere body n ≡ false → (body ≡ 65535 → ⊥) → body < n
body_there body n e real = ltb-true body n (by_case (ltb body n) (ne_eqb body 65535 real) e)
  where
    by_case : (b : Bool) {f : Bool} → f ≡ false → not (b || f) ≡ false → b ≡ true
    by_case true floor e = refl
    by_case false floor e = so false (rw floor at e)

pub first_there : (h : ContactHead) (n : ℕ) → wrong_bodies h n ≡ false → (h.body1 ≡ 65535 → ⊥) → h.body1 < n
unfolding wrong_bodies
first_there h n e = body_there h.body1 n (search (none_l, none_r))

pub second_there : (h : ContactHead) (n : ℕ) → wrong_bodies h n ≡ false → (h.body2 ≡ 65535 → ⊥) → h.body2 < n
unfolding wrong_bodies
second_there h n e = body_there h.body2 n (search (none_l, none_r))

-- .. after a write too, which leaves as many rows
pub still_there : (h : ContactHead) (b l : List Float) → length b ≡ length l → wrong_bodies h (rows body_width l) ≡ false → (h.body2 ≡ 65535 → ⊥) → h.body2 < rows body_width b
still_there h b l e w = second_there h (rows body_width b) (rw e w)

-- 6: count is 1, or 2
pub is_two : (h : ContactHead) → wrong_count h ≡ false → (h.count ≡ 1 → ⊥) → h.count ≡ 2
unfolding wrong_count
is_two h e other = eqb-true h.count 2 (by_case (eqb h.count 2) (ne_eqb h.count 1 other) e)
  where
    by_case : (b : Bool) {f : Bool} → f ≡ false → not (f || b) ≡ false → b ≡ true
    by_case true one e = refl
    by_case false one e = so false (rw one at e)

abbrev with_count : ℕ → Contact → Contact
with_count n c = record {
  head = record {
    body1 = c.head.body1;
    body2 = c.head.body2;
    count = n;
    dir1 = c.head.dir1;
    im1 = c.head.im1;
    im2 = c.head.im2;
    friction = c.head.friction;
    k12 = c.head.k12;
    flag = c.head.flag;
  };
  a = c.a;
  b = c.b;
}

-- .. of a contact as it was read, and its count put back
module _ {c d : Contact} (read : c ≡ d) where
  pub counted : wrong_count d.head ≡ false → (c.head.count ≡ 1 → ⊥) → c.head.count ≡ 2
  counted e = is_two c.head (rw read e)

  pub same_count : {n : ℕ} → n ≡ c.head.count → with_count n c ≡ d
  same_count e = rw e read

-- the zero contact has the same body twice
zero_wrong : (n : ℕ) → wrong_bodies contact_zero.head n ≡ false → ⊥
unfolding wrong_bodies contact_zero head_zero
zero_wrong n e = never (none_r (nowhere 0 n || nowhere 0 n) true e)

module _ (n : ℕ) (numbers : List ℕ) (floats : List Float) (k : ℕ) (sound : vouched n (contact_at numbers floats k) ≡ true) where
  bodies_right : wrong_bodies (contact_at numbers floats k).head n ≡ false
  bodies_right = (passed n (contact_at numbers floats k) sound).bodies

  not_zero : contact_zero ≡ contact_at numbers floats k → ⊥
  not_zero e = zero_wrong n (rw e bodies_right)

  pub numbers_there : k < rows numbers_width numbers
  numbers_there = by_case (dec_lt k (rows numbers_width numbers))
    where
      by_case : Dec (k < rows numbers_width numbers) → k < rows numbers_width numbers
      by_case (yes l) = l
      by_case (no past) = absurd (not_zero (no_numbers numbers floats k (omega arith) refl))

  pub floats_there : k < rows floats_width floats
  floats_there = by_case (dec_lt k (rows floats_width floats))
    where
      by_case : Dec (k < rows floats_width floats) → k < rows floats_width floats
      by_case (yes l) = l
      by_case (no past) = absurd (not_zero (no_floats numbers floats k numbers_there (omega arith) refl))

-- of a trusted contact
module _ (bodies : List Float) (numbers : List ℕ) (floats : List Float) (k : ℕ) (trust : Trusted (tables bodies numbers floats) k) where
  pub has_floats : k < rows floats_width floats
  has_floats = floats_there (rows body_width bodies) numbers floats k trust.sound

  pub has_bodies : wrong_bodies (contact_at numbers floats k).head (rows body_width bodies) ≡ false
  has_bodies = bodies_right (rows body_width bodies) numbers floats k trust.sound

  -- what else `its_contact` asks
  pub has_numbers : k < rows numbers_width numbers
  has_numbers = numbers_there (rows body_width bodies) numbers floats k trust.sound

  pub has_count : wrong_count (contact_at numbers floats k).head ≡ false
  has_count = (passed (rows body_width bodies) (contact_at numbers floats k) trust.sound).count

  -- all of it
  pub has_rows : (k < rows numbers_width numbers) × ((k < rows floats_width floats) × (wrong_count (contact_at numbers floats k).head ≡ false))
  has_rows = (has_numbers, (has_floats, has_count))
