-- Request E10, "Loads never pull", of every kind of step. Each statement is proved in proofs/Pushing.antt. Assumes nothing.
use Rattle.std.specs.Prelude.{ℕ, ◌<◌, ◌≡◌}
use Rattle.base_words.specs.Each.{Each}
use Rattle.elem_leaves.specs.Signs.{AtLeast0, InUnit}
use Rattle.elem_velocity.specs.declared.Vels.{Vels}
use Rattle.elem_impulse.specs.Pushing.{Made, Pushes}
use Rattle.step_contact.specs.Places.{Place, load, number, point}
use Rattle.step_contact.specs.declared.Contact.{Contact}
use Rattle.step_contact.specs.declared.ContactHead.{ContactHead}
use Rattle.step_contact.specs.declared.ContactPoint.{ContactPoint}
use Rattle.step_kinds.specs.Kinds.{at_point}
use Rattle.step_kinds.specs.Table.{Kind, kind_of, kinds}
use Rattle.step_kinds.specs.declared.Rule.{Rule}
use Rattle.step_kinds.specs.declared.Rule.TheVariants.{Normal}
use Rattle.step_promises.specs.Promises.{OfDone}

-- cfm in (0, 1], at points below count: what number 9 asks
abbrev pub Soft : Contact → Type 0
Soft c = (x : Place) → number x < c.head.count → InUnit (point x c).normal_part.cfm_factor

-- each load is what it was, or 0 or above
abbrev pub AllPush : Contact → Contact → Type 0
AllPush c d = (x : Place) → Pushes (load x c) (load x d)

-- a kind on any contact with as many points as it needs and any velocities, non-finite ones included
abbrev pub KindPushes : Kind → Type 0
KindPushes k = (c : Contact) (v : Vels) → (k.points ≡ 2 → 1 < c.head.count) → Soft c → AllPush c (k.does c v).contact

pub record KindsPush : Type 0 where
  -- kind 1 at a point, whatever its load was
  pub normal : (h : ContactHead) (p : ContactPoint) (v : Vels) → InUnit p.normal_part.cfm_factor
      → Made (at_point Normal h p v).point.normal_part.impulse
  -- each rule at a point, kind 1's alone with cfm in (0, 1]: kind 3 keeps its load or pushes; the rules of kinds 0 and 2 store none
  pub rules : (rule : Rule) (h : ContactHead) (p : ContactPoint) (v : Vels) → (rule ≡ Normal → InUnit p.normal_part.cfm_factor)
      → Pushes p.normal_part.impulse (at_point rule h p v).point.normal_part.impulse
  -- each line of the table of kinds, and so every number that may stand for a kind
  pub table : Each KindPushes kinds
  pub numbers : (kind : ℕ) → KindPushes (kind_of kind)

-- a done step, with nothing asked: each load is what it was, or 0 or above ..
abbrev pub DonePushes : Type 0
DonePushes = OfDone (λ c kind v s. AllPush c s.contact)

-- .. and at the points in use, which number 9 looks at, it is 0 or above
abbrev pub DoneLoads : Type 0
DoneLoads = OfDone (λ c kind v s. (x : Place) → number x < c.head.count → AtLeast0 (load x s.contact))
