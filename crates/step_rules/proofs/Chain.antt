-- A chain of conditions, one at a time, over what a check found. Assumes nothing.
use Prim.Native.Nat.{ℕ}
use native.Mathlib.Omega.{arith}
use mathlib.Core.Path.{◌≡◌, refl, sym, ◌∙◌, ap}
use mathlib.Core.Bool.{Bool, true, false}
use mathlib.Core.List.{List, [], ◌∷◌}
use Rattle.base_words.specs.Choice.{if◌then◌otherwise◌}
use Rattle.base_words.proofs.Pick.{take, pass}
use Rattle.elem_velocity.specs.declared.Vels.{Vels}
use Rattle.step_kinds.specs.Table.{routine}
use Rattle.step_contact.specs.declared.Contact.{Contact}
use Rattle.step_kinds.specs.declared.ContactSolved.{ContactSolved}
use Rattle.step_shape.specs.Shape.{kind_above, wrong_bodies}
use Rattle.step_values.specs.Values.{unwritable}
use Rattle.base_refusals.specs.Refusals.{Condition, ◌when◌}
use Rattle.step_rules.specs.Step.{Done, Outcome, Refused, as_read, as_written, asked, checks, conditions, first_or, holds_of, step, tried}

module _ (n : ℕ) (cs : List Condition) (done : ContactSolved) {r b : Bool} (found : r ≡ b) where
  -- the check found that its condition holds
  pub hit : r ≡ true → Refused n ≡ first_or (n when b ∷ cs) done
  unfolding first_or
  hit t = rw (← found) (take _ t refl)

  -- it does not hold, and the later ones are judged right
  pub miss : {o : Outcome} → r ≡ false → o ≡ first_or cs done → o ≡ first_or (n when b ∷ cs) done
  unfolding first_or
  miss t later = rw (← found) (pass _ t later)

-- no condition is left
done : (s : ContactSolved) → Done s ≡ first_or [] s
unfolding first_or
done s = refl

-- the routine's result, by whether it can be written
module _ (c : Contact) (kind : ℕ) (v : Vels) {s : ContactSolved} (made : s ≡ routine kind c v) {r : Bool} (found : r ≡ unwritable kind s) where
  pub lost : r ≡ true → Refused 10 ≡ first_or (10 when unwritable kind (routine kind c v) ∷ []) (routine kind c v)
  lost t = rw (← made) (hit 10 [] s found t)

  pub good : r ≡ false → Done s ≡ first_or (10 when unwritable kind (routine kind c v) ∷ []) (routine kind c v)
  good t = rw (← made) (miss 10 [] s found t (done s))

-- no outcome is both refused and done
pub not_both : {A : Type 0} {n : ℕ} {s : ContactSolved} → Refused n ≡ Done s → A
not_both e = absurd (let z : ◌≡◌ {A = ℕ} 0 1 = cc in omega arith)

-- a step: read, tried, written
pub read_and_written : (c : Contact) (kind : ℕ) (v seen : Vels) (rows : ℕ) (tried-to : Outcome) {o : Outcome} → seen ≡ as_read c.head v
    → tried-to ≡ tried c kind seen rows → o ≡ as_written c.head v tried-to → o ≡ step c kind v rows
unfolding step
read_and_written c kind v seen rows tried-to p q e = cc

-- with wrong bodies a step is refused, whatever the velocities are
refused_first : (c : Contact) (kind : ℕ) (v : Vels) (rows : ℕ) → wrong_bodies c.head rows ≡ true
    → (if kind_above kind then Refused 3 otherwise Refused 5) ≡ tried c kind v rows
unfolding tried conditions asked checks holds_of first_or
refused_first c kind v rows wrong = rw wrong

pub wrong_bodies_first : (c : Contact) (kind : ℕ) (v w : Vels) (rows : ℕ) → wrong_bodies c.head rows ≡ true
    → step c kind v rows ≡ step c kind w rows
unfolding step as_written
wrong_bodies_first c kind v w rows wrong =
    sym (ap (as_written c.head v) (refused_first c kind (as_read c.head v) rows wrong))
    ∙ by_case (kind_above kind)
    ∙ ap (as_written c.head w) (refused_first c kind (as_read c.head w) rows wrong)
  where
    by_case : (b : Bool) → as_written c.head v (if b then Refused 3 otherwise Refused 5) ≡ as_written c.head w (if b then Refused 3 otherwise Refused 5)
    by_case true = refl
    by_case false = refl
