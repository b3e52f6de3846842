-- Document 01, "Tables": "A step is a contact number and a kind; the step's kind, 0 to 4, chooses the routine". The one table of kinds: a
-- new kind is one more line of it. Assumes nothing.
use Rattle.std.specs.Prelude.{ℕ, None, Bool, List, [], ◌∷◌, get_or}
use Rattle.base_places.specs.Places.{none, only}
use Rattle.base_places.specs.declared.Cell.{Cell}
use Rattle.base_places.specs.declared.Cell.TheVariants.{NormalImpulse, TangentImpulse}
use Rattle.elem_velocity.specs.declared.Vels.{Vels}
use Rattle.step_contact.specs.declared.Contact.{Contact}
use Rattle.step_kinds.specs.Kinds.{over_points, pair_of, warm_start}
use Rattle.step_kinds.specs.declared.ContactSolved.{ContactSolved}
use Rattle.step_kinds.specs.declared.Rule.TheVariants.{Normal, Friction, Restitution}

-- what it does, how many points it needs, and which cells it stores
pub record Kind : Type 0 where
  pub does : Contact → Vels → ContactSolved
  pub points : ℕ
  pub stores : Cell → Bool

abbrev pub kind : (Contact → Vels → ContactSolved) → ℕ → (Cell → Bool) → Kind
kind does points stores = record { does = does; points = points; stores = stores }

-- "0 warm start, 1 normal, 2 friction, 3 restitution, 4 normal pair"
unfoldable pub kinds : List Kind
kinds =
    kind warm_start 1 none
    ∷ kind (over_points Normal) 1 (only NormalImpulse)
    ∷ kind (over_points Friction) 1 (only TangentImpulse)
    ∷ kind (over_points Restitution) 1 (only NormalImpulse)
    ∷ kind pair_of 2 (only NormalImpulse)
    ∷ []

-- no other number is a kind: what it would do is nothing
unfoldable pub no_kind : Kind
no_kind = kind (λ c v. record { branch = None; contact = c; vels = v }) 1 none

-- a step's kind by its number
unfoldable pub kind_of : ℕ → Kind
kind_of k = get_or kinds k no_kind

unfoldable pub routine : ℕ → Contact → Vels → ContactSolved
routine k c v = (kind_of k).does c v

unfoldable pub points_for : ℕ → ℕ
points_for k = (kind_of k).points

unfoldable pub stores : ℕ → Cell → Bool
stores k c = (kind_of k).stores c
