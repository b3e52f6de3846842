-- Where a contact's flaw is known, the one list need not look at the contact again: for any list of distinct numbers. Assumes nothing.
use Prim.Native.Nat.{ℕ}
use mathlib.Core.Path.{◌≡◌, refl, sym, ap}
use mathlib.Core.Bool.{Bool, true, false, ◌||◌}
use mathlib.Core.List.{List, [], ◌∷◌}
use borrow.Author.Tests.{eq-eqb, eqb-false, ne_eqb}
use lib.Dec.{eqb}
use Rattle.base_words.specs.Choice.{if◌then◌otherwise◌}
use Rattle.base_words.proofs.Said.{none_l, none_r}
use Rattle.base_refusals.specs.Refusals.{Condition, ◌when◌, first}
use Rattle.base_refusals.specs.Distinct.{distinct, stands}
use Rattle.base_refusals.proofs.Exact.{apart}
use Rattle.elem_velocity.specs.declared.Vels.{Vels}
use Rattle.step_contact.specs.declared.Contact.{Contact}
use Rattle.step_kinds.specs.Table.{routine}
use Rattle.step_kinds.specs.declared.ContactSolved.{ContactSolved}
use Rattle.step_rules.specs.Step.{Check, Looks, Outcome, Refused, asked, at_both, at_contact, at_step, checks, conditions, first_or, holds_of, ◌looks◌, tried}
use Rattle.step_promises.proofs.Promises.{distinct_numbers}
use Rattle.quick_flaws.specs.Flaws.{asked_knowing, flaw, half_at, holds_knowing, of_contact, tried_knowing}

flipped : (n m : ℕ) → eqb n m ≡ false → eqb m n ≡ false
flipped n m e = ne_eqb m n (λ same. eqb-false n m e (sym same))

module _ (c : Contact) (kind : ℕ) (v : Vels) (rows : ℕ) where
  abbrev flaw_of : List Check → ℕ
  flaw_of ks = first (of_contact ks c rows)

  -- the flaw is not a number that does not stand in the list
  module _ (n m : ℕ) (cs : List Condition) (other : eqb n m ≡ false) (later : eqb (first cs) n ≡ false) where
    by_half : (b : Bool) → eqb (first (m when b ∷ cs)) n ≡ false
    unfolding first
    by_half true = flipped n m other
    by_half false = later

    by_looks : (l : Looks) → eqb (first (half_at m l c rows cs)) n ≡ false
    unfolding half_at
    by_looks (at_contact f) = by_half (f c rows)
    by_looks (at_step g) = later
    by_looks (at_both f g) = by_half (f c rows)

  elsewhere : (n : ℕ) (ks : List Check) → eqb n 0 ≡ false → stands n (asked ks c kind v rows) ≡ false → eqb (flaw_of ks) n ≡ false
  unfolding first of_contact asked stands
  elsewhere n [] some none = flipped n 0 some
  elsewhere n (k ∷ ks) some none =
      by_looks n k.number (of_contact ks c rows) (none_l (eqb n k.number) (stands n (asked ks c kind v rows)) none)
      (elsewhere n ks some (none_r (eqb n k.number) (stands n (asked ks c kind v rows)) none)) k.looks

  -- one check, where the flaw of the later ones is not its number and they come to the same
  module _ (n : ℕ) (ks : List Check) (made : ContactSolved) (other : eqb (flaw_of ks) n ≡ false)
      (later : first_or (asked_knowing (flaw_of ks) ks c kind v) made ≡ first_or (asked ks c kind v rows) made) where
    abbrev after : Bool → ℕ
    after b = first (n when b ∷ of_contact ks c rows)

    own : eqb n n ≡ true
    own = eq-eqb n n refl

    go_on : (d : Bool) → (if d then Refused n otherwise first_or (asked_knowing (flaw_of ks) ks c kind v) made) ≡ (if d then Refused n otherwise first_or (asked ks c kind v rows) made)
    go_on d = ap (λ (o : Outcome). if d then Refused n otherwise o) later

    of_contact_lem : (b : Bool) → first_or (n when eqb (after b) n ∷ asked_knowing (after b) ks c kind v) made ≡ first_or (n when b ∷ asked ks c kind v rows) made
    unfolding first first_or
    of_contact_lem true = rw own
    of_contact_lem false = rw other later

    of_both : (b d : Bool)
        → first_or (n when (eqb (after b) n || d) ∷ asked_knowing (after b) ks c kind v) made ≡ first_or (n when (b || d) ∷ asked ks c kind v rows) made
    unfolding first first_or
    of_both true d = rw own
    of_both false d = rw other (go_on d)

    by_check : (l : Looks) → first_or (asked_knowing (flaw_of (n looks l ∷ ks)) (n looks l ∷ ks) c kind v) made ≡ first_or (asked (n looks l ∷ ks) c kind v rows) made
    unfolding first first_or of_contact half_at asked_knowing holds_knowing asked holds_of
    by_check (at_contact f) = of_contact_lem (f c rows)
    by_check (at_step g) = go_on (g c kind v)
    by_check (at_both f g) = of_both (f c rows) (g c kind v)

  knowing : (ks : List Check) (made : ContactSolved) → distinct (asked ks c kind v rows) ≡ true
      → first_or (asked_knowing (flaw_of ks) ks c kind v) made ≡ first_or (asked ks c kind v rows) made
  unfolding asked_knowing asked
  knowing [] made numbers = refl
  knowing (k ∷ ks) made numbers =
      let off = apart (k.number when holds_of k.looks c kind v rows) (asked ks c kind v rows) numbers in
      by_check k.number ks made (elsewhere k.number ks off.not_zero off.not_again) (knowing ks made off.later) k.looks

-- so a step is judged by its contact's flaw
pub judged_by_flaw : (rows : ℕ) (c : Contact) (kind : ℕ) (v : Vels) → tried_knowing c kind v (flaw rows c) ≡ tried c kind v rows
unfolding tried_knowing tried conditions flaw
judged_by_flaw rows c kind v = knowing c kind v rows checks (routine kind c v) (distinct_numbers c kind v rows)
