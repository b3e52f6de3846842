-- What every step keeps to: the sentences of document 01 and of demand 1 that speak of a single step, as statements about `step`.
-- Each is proved in proofs/Promises.antt. Assumes nothing.
use Rattle.std.specs.Prelude.{ℕ, ◌≤◌, ◌<◌, ◌≡◌, true, false}
use Rattle.elem_leaves.specs.Finite.{finite}
use Rattle.elem_velocity.specs.declared.Vels.{Vels}
use Rattle.step_contact.specs.Contact.{is_floor}
use Rattle.base_places.specs.declared.Cell.{Cell}
use Rattle.step_contact.specs.Cells.{in_cell}
use Rattle.step_kinds.specs.Table.{stores}
use Rattle.step_kinds.specs.Stored.{stored}
use Rattle.step_contact.specs.declared.Contact.{Contact}
use Rattle.step_contact.specs.declared.ContactPoint.{ContactPoint}
use Rattle.step_kinds.specs.declared.ContactSolved.{ContactSolved}
use Rattle.step_values.specs.Values.{finite_vel}
use Rattle.base_refusals.specs.Refusals.{Exactly}
use Rattle.base_refusals.specs.Distinct.{distinct}
use Rattle.step_rules.specs.Step.{Done, answer, as_read, branch, conditions, step}

-- "each refusal is given exactly when its number's condition holds and no earlier one does"; 0 exactly when none holds
abbrev pub ExactAnswers : Type 0
ExactAnswers = (c : Contact) (kind : ℕ) (v : Vels) (rows : ℕ) → Exactly (answer (step c kind v rows)) (conditions c kind (as_read c.head v) rows)

-- each of a step's numbers stands in the one list once
abbrev pub DistinctNumbers : Type 0
DistinctNumbers = (c : Contact) (kind : ℕ) (v : Vels) (rows : ℕ) → distinct (conditions c kind v rows) ≡ true

-- "0 for any refusal and for every kind but 4"
abbrev pub BranchOfPairs : Type 0
BranchOfPairs = (c : Contact) (kind : ℕ) (v : Vels) (rows : ℕ) → (kind ≡ 4 → ⊥) → branch (step c kind v rows) ≡ 0

-- a branch is one of six, or 0
abbrev pub FewBranches : Type 0
FewBranches = (c : Contact) (kind : ℕ) (v : Vels) (rows : ℕ) → branch (step c kind v rows) ≤ 6

-- what holds of every done step
abbrev pub OfDone : (Contact → ℕ → Vels → ContactSolved → Type 0) → Type 0
OfDone P = (c : Contact) (kind : ℕ) (v : Vels) (rows : ℕ) (s : ContactSolved) → step c kind v rows ≡ Done s → P c kind v s

-- every number that no rule writes is as it was: the new contact is the old one, but for the cells that the kind stores at points
-- below count. So the head, with body numbers and count, never changes
abbrev pub Untouched : Type 0
Untouched = OfDone (λ c kind v s. s.contact ≡ stored (stores kind) c s.contact)

abbrev pub SameHead : Type 0
SameHead = OfDone (λ c kind v s. s.contact.head ≡ c.head)

-- the floor "is never written"
pub record FloorSides (c : Contact) (old new : Vels) : Type 0 where
  pub side1 : is_floor c.head.body1 ≡ true → new.v1 ≡ old.v1
  pub side2 : is_floor c.head.body2 ≡ true → new.v2 ≡ old.v2

abbrev pub FloorKept : Type 0
FloorKept = OfDone (λ c kind v s. FloorSides c v s.vels)

-- a done step's real velocities are finite, and so is every cell at points below count, those that it wrote and the others
abbrev pub FiniteCells : ContactPoint → Type 0
FiniteCells p = (c : Cell) → finite (in_cell c p) ≡ true

pub record FiniteResult (s : ContactSolved) : Type 0 where
  pub velocity1 : is_floor s.contact.head.body1 ≡ false → finite_vel s.vels.v1 ≡ true
  pub velocity2 : is_floor s.contact.head.body2 ≡ false → finite_vel s.vels.v2 ≡ true
  pub at_a : 0 < s.contact.head.count → FiniteCells s.contact.a
  pub at_b : 1 < s.contact.head.count → FiniteCells s.contact.b

abbrev pub FiniteDone : Type 0
FiniteDone = OfDone (λ c kind v s. FiniteResult s)
