-- The quick engine's own words, which nobody else need know: what of a contact has to be looked for only once, since no done step spoils
-- it. Its flaw is the first number that refuses it by the part of the one list (`checks`) that looks at the contact alone; a contact
-- without a flaw is vouched for. Assumes nothing.
use Rattle.std.specs.Prelude.{ℕ, Bool, true, ◌||◌, List, [], ◌∷◌, ◌≡◌, eqb}
use Rattle.elem_velocity.specs.declared.Vels.{Vels}
use Rattle.step_contact.specs.declared.Contact.{Contact}
use Rattle.step_kinds.specs.Table.{routine}
use Rattle.step_kinds.specs.declared.ContactSolved.{ContactSolved}
use Rattle.base_refusals.specs.Refusals.{Condition, ◌when◌, first}
use Rattle.step_rules.specs.Step.{Check, Done, Looks, Outcome, at_both, at_contact, at_step, checks, first_or, step}

-- number n's condition as far as it looks at the contact alone, before the later ones
unfoldable pub half_at : ℕ → Looks → Contact → ℕ → List Condition → List Condition
half_at n (at_contact f) c rows later = n when f c rows ∷ later
half_at n (at_step g) c rows later = later
half_at n (at_both f g) c rows later = n when f c rows ∷ later

-- the part of a list of checks that looks at the contact alone
unfoldable pub of_contact : List Check → Contact → ℕ → List Condition
of_contact [] c rows = []
of_contact (k ∷ ks) c rows = half_at k.number k.looks c rows (of_contact ks c rows)

-- what is wrong with a contact, whatever the step's kind and the velocities are, by its number; 0 where nothing is
unfoldable pub flaw : ℕ → Contact → ℕ
flaw rows c = first (of_contact checks c rows)

unfoldable pub vouched : ℕ → Contact → Bool
vouched rows c = eqb (flaw rows c) 0

-- number n's condition, where it is known that the contact's flaw is f: what looks at the contact holds if f is n
unfoldable pub holds_knowing : ℕ → ℕ → Looks → Contact → ℕ → Vels → Bool
holds_knowing f n (at_contact t) c kind v = eqb f n
holds_knowing f n (at_step g) c kind v = g c kind v
holds_knowing f n (at_both t g) c kind v = eqb f n || g c kind v

-- the same list, what looks at the contact taken from its flaw
unfoldable pub asked_knowing : ℕ → List Check → Contact → ℕ → Vels → List Condition
asked_knowing f [] c kind v = []
asked_knowing f (k ∷ ks) c kind v = k.number when holds_knowing f k.number k.looks c kind v ∷ asked_knowing f ks c kind v

-- a step on a contact whose flaw is f
unfoldable pub tried_knowing : Contact → ℕ → Vels → ℕ → Outcome
tried_knowing c kind v f = first_or (asked_knowing f checks c kind v) (routine kind c v)

-- a done step leaves a contact that is vouched for. Proved in proofs/Stays.antt
abbrev pub StaysVouched : Type 0
StaysVouched = (c : Contact) (kind : ℕ) (v : Vels) (rows : ℕ) (s : ContactSolved) → step c kind v rows ≡ Done s → vouched rows s.contact ≡ true
