-- Which rows are a step's own: what makes one so, and what is known of one that is. Assumes nothing.
use Prim.Native.Nat.{ℕ, ◌<◌}
use mathlib.Core.Bool.{Bool, true, false, not, ◌&&◌, ◌||◌}
use mathlib.Core.Logic.{◌⊎◌, inl, inr, ⊎_elim}
use mathlib.Core.Path.{◌≡◌, refl, sym, ◌∙◌}
use lib.Dec.{eqb, ltb}
use lib.ListN.{get_or}
use borrow.Author.Tests.{eq-eqb, eqb-true, lt-ltb, ltb-true}
use Rattle.base_places.specs.Places.{body_width, floats_width, numbers_width}
use Rattle.base_words.proofs.Said.{all_both, not_so}
use Rattle.step_contact.specs.Contact.{is_floor}
use Rattle.base_rows.specs.Rows.{row, rows}
use Rattle.list_tables.specs.declared.Step.{Step}
use Rattle.list_rules.specs.Sweep.{Tables, its_contact}
use Rattle.list_sharing.specs.Own.{body, contact, is_body, is_contact, joins, shape, touches}
use Rattle.list_sharing.specs.Sharing.{Names, There}
use Rattle.list_sharing.proofs.Found.{numbers_of}

-- two tests of which one holds
one_holds : {b one two x : ℕ} → b ≡ x → (x ≡ one) ⊎ (x ≡ two) → (eqb b one || eqb b two) ≡ true
one_holds {b} {one} {two} e (inl p) = rw (eq-eqb b one (e ∙ p))
one_holds {b} {one} {two} e (inr p) = by_case (eqb b one) (eq-eqb b two (e ∙ p))
  where
    by_case : (a : Bool) {c : Bool} → c ≡ true → (a || c) ≡ true
    by_case true q = refl
    by_case false q = q

hold_one : (a b : Bool) → (a || b) ≡ true → (a ≡ true) ⊎ (b ≡ true)
hold_one true b e = inl refl
hold_one false b e = inr e

-- a contact of the table
module _ (t : Tables) (k : ℕ) where
  is_contact_lem : There t k → is_contact (shape t) k ≡ true
  unfolding is_contact
  is_contact_lem h = simp (lt-ltb k (rows numbers_width t.numbers) h.0, lt-ltb k (rows floats_width t.floats) h.1)

  contact_is : is_contact (shape t) k ≡ true → There t k
  unfolding is_contact
  contact_is e =
      let both = all_both (ltb k (rows numbers_width t.numbers)) (ltb k (rows floats_width t.floats)) e in
      (ltb-true k (rows numbers_width t.numbers) both.0, ltb-true k (rows floats_width t.floats) both.1)

-- a body of the table that is not the floor
module _ (t : Tables) (b : ℕ) where
  is_body_lem : is_floor b ≡ false → b < rows body_width t.bodies → is_body (shape t) b ≡ true
  unfolding is_body
  is_body_lem real h = simp (real, lt-ltb b (rows body_width t.bodies) h)

  body_is : is_body (shape t) b ≡ true → (is_floor b ≡ false) × (b < rows body_width t.bodies)
  unfolding is_body
  body_is e =
      let both = all_both (ltb b (rows body_width t.bodies)) (not (is_floor b)) e in
      (not_so (is_floor b) both.1, ltb-true b (rows body_width t.bodies) both.0)

module _ (t : Tables) (s : Step) where
  -- the two body numbers of the step's contact
  abbrev one : ℕ
  one = get_or (row numbers_width s.contact t.numbers) 0 0

  abbrev two : ℕ
  two = get_or (row numbers_width s.contact t.numbers) 1 0

  joined : (b : ℕ) → Names t s b → joins (shape t) s.contact b ≡ true
  unfolding joins
  joined b n =
      let first = (numbers_of s t n.there).0 in
      let second = (numbers_of s t n.there).1 in
      ⊎_elim (λ e. one_holds e (search inl)) (λ e. one_holds e (search (inl, inr))) n.side

  joins_of : (b : ℕ) → There t s.contact → joins (shape t) s.contact b ≡ true → Names t s b
  unfolding joins
  joins_of b h e = record { there = h; side = sides (hold_one (eqb b one) (eqb b two) e) }
    where
      sides : (eqb b one ≡ true) ⊎ (eqb b two ≡ true) → (b ≡ (its_contact s t).head.body1) ⊎ (b ≡ (its_contact s t).head.body2)
      sides (inl p) = inl (eqb-true b one p ∙ sym (numbers_of s t h).0)
      sides (inr p) = inr (eqb-true b two p ∙ sym (numbers_of s t h).1)

  -- a contact of the table is its step's own ..
  pub own_contact : There t s.contact → touches (shape t) s (contact s.contact) ≡ true
  unfolding touches
  own_contact h = simp (eq-eqb s.contact s.contact refl, is_contact_lem t s.contact h)

  -- .. and no other
  pub contact_own : (k : ℕ) → touches (shape t) s (contact k) ≡ true → (k ≡ s.contact) × There t k
  unfolding touches
  contact_own k e =
      let both = all_both (eqb k s.contact) (is_contact (shape t) k) e in
      (eqb-true k s.contact both.0, contact_is t k both.1)

  -- so is each body that it joins, if that is in the table and not the floor ..
  pub own_body : (b : ℕ) → Names t s b → is_floor b ≡ false → b < rows body_width t.bodies → touches (shape t) s (body b) ≡ true
  unfolding touches
  own_body b n real h = simp (is_contact_lem t s.contact n.there, joined b n, is_body_lem t b real h)

  -- .. and no other
  pub body_own : (b : ℕ) → touches (shape t) s (body b) ≡ true → Names t s b × (is_floor b ≡ false) × (b < rows body_width t.bodies)
  unfolding touches
  body_own b e =
      let all = all_both (is_contact (shape t) s.contact && joins (shape t) s.contact b) (is_body (shape t) b) e in
      let its = all_both (is_contact (shape t) s.contact) (joins (shape t) s.contact b) all.0 in
      (joins_of b (contact_is t s.contact its.0) its.1, (body_is t b all.1).0, (body_is t b all.1).1)
