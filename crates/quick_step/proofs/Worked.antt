-- A step on a trusted contact, kind by kind. Assumes nothing.
use Prim.Native.Nat.{ℕ, zero, suc, ◌≤◌, ◌<◌}
use mathlib.Core.Bool.{Bool, true, false}
use mathlib.Core.List.{List, [], ◌∷◌}
use mathlib.Core.Path.{◌≡◌, refl, sym, ap, ◌∙◌, subst}
use borrow.Author.Tests.{le-leb, lt-ltb}
use lib.Ieee.{Float}
use lib.ListN.{length}
use Rattle.base_places.specs.Places.{body_width, floats_width}
use Rattle.base_words.proofs.Pick.{take}
use Rattle.base_refusals.specs.Refusals.{◌when◌}
use Rattle.base_rows.specs.Rows.{rows}
use Rattle.elem_velocity.specs.declared.Vels.{Vels}
use Rattle.step_contact.specs.declared.Contact.{Contact}
use Rattle.step_contact.specs.declared.ContactHead.{ContactHead}
use Rattle.step_kinds.specs.Kinds.{over_points, pair_of, warm_start}
use Rattle.step_kinds.specs.Table.{kind_of, kinds, no_kind, routine}
use Rattle.step_kinds.specs.declared.ContactSolved.{ContactSolved}
use Rattle.step_shape.specs.Shape.{kind_above, pair_of_one, wrong_bodies}
use Rattle.step_values.specs.Values.{not_finite_vels}
use Rattle.step_rules.proofs.Chain.{hit, miss}
use Rattle.step_rules.specs.Step.{Refused, first_or, tried}
use Rattle.list_cells.specs.declared.Answer.{Answer}
use Rattle.base_order.specs.OneByOne.{Stepped}
use Rattle.list_rules.specs.Sweep.{Tables, if_there, new_bodies, step_on, tables, vels_at}
use Rattle.list_tables.specs.Tables.{contact_at}
use Rattle.list_tables.specs.declared.Step.{Step}
use Rattle.quick_tested.proofs.Quick.{quick_step}
use Rattle.quick_step.specs.Trusted.{Left, Trusted, tested}
use Rattle.quick_step.proofs.AsRead.{away, its, raw, read_itself, stepped, vels}
use Rattle.quick_step.proofs.There.{has_bodies, has_floats}

-- no kind changes a contact's head
head_kept : (kind : ℕ) (c : Contact) (v : Vels) → (routine kind c v).contact.head ≡ c.head
unfolding routine kind_of kinds no_kind warm_start over_points pair_of
head_kept zero c v = refl
head_kept (suc zero) c v = refl
head_kept (suc (suc zero)) c v = refl
head_kept (suc (suc (suc zero))) c v = refl
head_kept (suc (suc (suc (suc zero)))) c v = refl
head_kept (suc (suc (suc (suc (suc kind))))) c v = refl

-- a contact as it was read, and what was made of it, still name bodies that are there
module _ (bodies : List Float) (numbers : List ℕ) (floats : List Float) (k : ℕ) (trust : Trusted (tables bodies numbers floats) k) where
  pub read_bodies : {c : Contact} → c ≡ contact_at numbers floats k → wrong_bodies c.head (rows body_width bodies) ≡ false
  read_bodies e = rw e (has_bodies bodies numbers floats k trust)

  pub made_rows : (n : ℕ) {c : Contact} (v : Vels) {d : ContactSolved} → c ≡ contact_at numbers floats k → d ≡ routine n c v
      → (wrong_bodies d.contact.head (rows body_width bodies) ≡ false) × (k < rows floats_width floats)
  made_rows n {c} v e m =
      (ap at (ap (λ (d : ContactSolved). d.contact.head) m ∙ head_kept n c v) ∙ read_bodies e, has_floats bodies numbers floats k trust)
    where
      at : ContactHead → Bool
      at h = wrong_bodies h (rows body_width bodies)

module _ (bodies : List Float) (numbers : List ℕ) (floats : List Float) (s : Step) (trust : Trusted (tables bodies numbers floats) s.contact) where
  abbrev mine : Contact
  mine = its bodies numbers floats s

  abbrev speeds : Vels
  speeds = vels bodies numbers floats s

  abbrev made : ContactSolved
  made = routine s.kind mine speeds

  abbrev Tries : Vels → Type 0
  Tries w =
      tried mine s.kind w (rows body_width bodies)
      ≡ first_or (3 when kind_above s.kind ∷ 7 when pair_of_one s.kind mine.head ∷ 10 when not_finite_vels (routine s.kind mine w).vels ∷ []) (routine s.kind mine w)

  -- only 3, 7 and one test are left
  left_to_ask : first_or (3 when kind_above s.kind ∷ 7 when pair_of_one s.kind mine.head ∷ 10 when not_finite_vels made.vels ∷ []) made ≡ raw bodies numbers floats s
  unfolding if_there
  left_to_ask =
      let same = read_itself bodies mine.head in
      let quick : Tries speeds =
      subst Tries same (quick_step (rows body_width bodies) mine s.kind speeds trust.sound (ap not_finite_vels same ∙ trust.moving)) in
      take _ (lt-ltb _ _ (has_floats bodies numbers floats s.contact trust)) (sym quick)

  -- 3, and 7
  away_by : (n : ℕ) {a : Answer} → Refused n ≡ raw bodies numbers floats s → a ≡ record { number = n; branch = 0 }
      → record { answer = a; after = tables bodies numbers floats } ≡ step_on s (tables bodies numbers floats)
  away_by n e is = rw is (away bodies numbers floats s n e)

  pub no_kind_lem : {a : Answer} → length kinds ≤ s.kind → a ≡ record { number = 3; branch = 0 } → record { answer = a; after = tables bodies numbers floats } ≡ step_on s (tables bodies numbers floats)
  unfolding kind_above
  no_kind_lem past = away_by 3 (hit 3 _ _ refl (le-leb _ _ past) ∙ left_to_ask)

  pub no_pair : {c : Contact} {paired : Bool} {a : Answer} (n : ℕ) → s.kind ≡ n → kind_above n ≡ false → c ≡ mine → paired ≡ pair_of_one s.kind c.head → paired ≡ true
      → a ≡ record { number = 7; branch = 0 } → record { answer = a; after = tables bodies numbers floats } ≡ step_on s (tables bodies numbers floats)
  no_pair n e known read e7 h =
      away_by 7 (miss 3 _ _ (sym (ap kind_above e ∙ known)) refl (hit 7 _ _ (e7 ∙ ap (λ (c : Contact). pair_of_one s.kind c.head) read) h) ∙ left_to_ask)

  -- a kind of the table
  asked_all : kind_above s.kind ≡ false → {paired : Bool} → paired ≡ pair_of_one s.kind mine.head → paired ≡ false → tested made ≡ raw bodies numbers floats s
  unfolding tested
  asked_all known e7 n7 = miss 3 _ made (sym known) refl (miss 7 _ made e7 n7 refl) ∙ left_to_ask

  pub by_kind : (n : ℕ) {c d : Contact} {v : Vels} {m : ContactSolved} {paired : Bool} {a : Answer} {b l : List Float} → s.kind ≡ n → kind_above n ≡ false
      → c ≡ mine → paired ≡ pair_of_one s.kind c.head → paired ≡ false → d ≡ mine → v ≡ vels_at bodies c.head → m ≡ routine n d v
      → Left m s.contact s.kind bodies floats a b l → record { answer = a; after = tables b numbers l } ≡ step_on s (tables bodies numbers floats)
  by_kind n {m = m} e known read e7 n7 again moving work left =
      let is_made : m ≡ made = cc in
      let head : m.contact.head ≡ mine.head = ap (λ (d : ContactSolved). d.contact.head) is_made ∙ head_kept s.kind mine speeds in
      let done = ap tested is_made ∙ asked_all (ap kind_above e ∙ known) (e7 ∙ ap (λ (c : Contact). pair_of_one s.kind c.head) read) n7 in
      stepped bodies numbers floats s done (left.moved ∙ ap (λ (h : ContactHead). new_bodies h (tested m) bodies) head) left.stored left.answer

  -- .. that needs one point alone
  pub by_kind_of_one : (n : ℕ) {c d : Contact} {v : Vels} {m : ContactSolved} {a : Answer} {b l : List Float} → s.kind ≡ n → kind_above n ≡ false
      → ((h : ContactHead) → pair_of_one n h ≡ false) → c ≡ mine → d ≡ mine → v ≡ vels_at bodies c.head → m ≡ routine n d v
      → Left m s.contact s.kind bodies floats a b l → record { answer = a; after = tables b numbers l } ≡ step_on s (tables bodies numbers floats)
  by_kind_of_one n {c} e known one read = by_kind n e known read refl (ap (λ (k : ℕ). pair_of_one k c.head) e ∙ one c.head)

-- numbers that stay as they were
pub same_numbers : {b l : List Float} {numbers numbers' : List ℕ} {a : Answer} {x : Stepped Answer Tables} → numbers' ≡ numbers
    → record { answer = a; after = tables b numbers l } ≡ x → record { answer = a; after = tables b numbers' l } ≡ x
same_numbers e p = rw e p
