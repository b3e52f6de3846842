-- The statements of specs/Promises.antt. Assumes nothing.
use Prim.Native.Nat.{ℕ, ◌≤◌}
use native.Mathlib.Nat.{le_trans}
use native.Mathlib.Omega.{arith}
use mathlib.Core.Path.{◌≡◌, refl, sym, ap, ◌∙◌}
use mathlib.Core.Bool.{Bool, true, false, cond}
use mathlib.Core.List.{List, [], ◌∷◌}
use mathlib.Core.Logic.{◌≢◌}
use borrow.Author.Tests.{eqb-false, eqb-true, lt-ltb}
use lib.Dec.{eqb}
use Rattle.elem_velocity.specs.declared.SolverVel.{SolverVel}
use Rattle.elem_velocity.specs.declared.Vels.{Vels}
use Rattle.step_kinds.proofs.Keeps.{no_branch, routine_keeps, same_head}
use Rattle.step_contact.specs.Contact.{is_floor}
use Rattle.step_contact.specs.Places.{at_a, at_b}
use Rattle.elem_impulse.specs.Block.{branch_number, branch_word}
use Rattle.elem_impulse.specs.declared.Branch.{Branch}
use Rattle.elem_impulse.specs.declared.Branch.TheVariants.{Both, Degraded, Kept, Neither, OnlyA, OnlyB}
use Rattle.elem_normal.specs.Pair.{pair}
use Rattle.step_kinds.specs.Kinds.{pair_of}
use Rattle.step_kinds.specs.Table.{kind_of, kinds, routine, stores}
use Rattle.step_contact.specs.declared.Contact.{Contact}
use Rattle.step_contact.specs.declared.ContactHead.{ContactHead}
use Rattle.step_kinds.specs.declared.ContactSolved.{ContactSolved}
use Rattle.step_shape.proofs.Points.{two_points}
use Rattle.step_values.proofs.Passed.{cells_finite, velocity1_finite, velocity2_finite}
use Rattle.step_shape.specs.Shape.{pair_of_one, wrong_bodies, wrong_count}
use Rattle.step_values.specs.Values.{finite_vel, not_finite, not_finite_vels, out_of_range, unwritable}
use Rattle.base_refusals.specs.Refusals.{Condition, first}
use Rattle.base_refusals.specs.Distinct.{distinct, stands}
use Rattle.base_words.proofs.Said.{none_l}
use Rattle.base_refusals.proofs.Chain.{none}
use Rattle.base_refusals.proofs.Exact.{Apart, None, apart, exactly, left, taken}
use Rattle.step_promises.specs.Promises.{BranchOfPairs, DistinctNumbers, ExactAnswers, FewBranches, FiniteDone, FloorKept, SameHead, Untouched}
use Rattle.step_rules.proofs.Chain.{not_both}
use Rattle.step_rules.specs.Step.{Done, Outcome, Refused, answer, as_read, as_written, asked, branch, checks, conditions, first_or, holds_of, step, tried, writes, written_vels}

-- writing changes no answer and no branch
same_answer : (h : ContactHead) (v : Vels) (o : Outcome) → answer (as_written h v o) ≡ answer o
unfolding as_written
same_answer h v (Refused n) = refl
same_answer h v (Done s) = refl

same_branch : (h : ContactHead) (v : Vels) (o : Outcome) → branch (as_written h v o) ≡ branch o
unfolding as_written
same_branch h v (Refused n) = refl
same_branch h v (Done s) = refl

-- a refused outcome's number is the first of its conditions, and a done one's is 0
first_answered : (cs : List Condition) (made : ContactSolved) → answer (first_or cs made) ≡ first cs
unfolding first_or
first_answered [] made = none
first_answered (c ∷ cs) made = by_case c.holds refl (first_answered cs made)
  where
    by_case : (b : Bool) → c.holds ≡ b → answer (first_or cs made) ≡ first cs → answer (cond b (Refused c.number) (first_or cs made)) ≡ first (c ∷ cs)
    by_case true h rest = sym (taken c cs h)
    by_case false h rest = rest ∙ sym (left c cs h)

module _ (c : Contact) (kind : ℕ) (v : Vels) (rows : ℕ) where
  -- a step answers the first of its conditions
  pub answers_first : answer (step c kind v rows) ≡ first (conditions c kind (as_read c.head v) rows)
  unfolding step tried
  answers_first =
      let seen = as_read c.head v in
      same_answer c.head v (tried c kind seen rows) ∙ first_answered (conditions c kind seen rows) (routine kind c seen)

pub distinct_numbers : DistinctNumbers
unfolding conditions asked checks distinct stands
distinct_numbers c kind v rows = refl

pub exact_answers : ExactAnswers
exact_answers c kind v rows =
    rw (answers_first c kind v rows)
    (exactly (conditions c kind (as_read c.head v) rows) (distinct_numbers c kind (as_read c.head v) rows))

-- a step that is done passed every condition, and is what the routine made
passed_all : (cs : List Condition) (made s : ContactSolved) → first_or cs made ≡ Done s → None cs × (made ≡ s)
unfolding first_or
passed_all [] made s e = (tt, cc)
passed_all (c ∷ cs) made s e = by_case c.holds refl (passed_all cs made s) e
  where
    by_case : (b : Bool) → c.holds ≡ b → (first_or cs made ≡ Done s → None cs × (made ≡ s))
        → cond b (Refused c.number) (first_or cs made) ≡ Done s → ((c.holds ≡ false) × None cs) × (made ≡ s)
    by_case true h rest e = not_both e
    by_case false h rest e = let r = rest e in ((h, r.0), r.1)

-- written as it was made, but for the floor
written_as : (h : ContactHead) (v : Vels) (o : Outcome) (s : ContactSolved) → as_written h v o ≡ Done s
    → (made : ContactSolved) × (o ≡ Done made) × (s.branch ≡ made.branch) × (s.contact ≡ made.contact) × (s.vels ≡ written_vels h v made.vels)
unfolding as_written
written_as h v (Refused n) s e = not_both e
written_as h v (Done made) s e = (made, refl, cc, cc, cc)

-- what is known of a done step: the conditions that it passed, and what it is made of
pub record Known (c : Contact) (kind : ℕ) (v : Vels) (s : ContactSolved) : Type 0 where
  pub counted : wrong_count c.head ≡ false
  pub paired : pair_of_one kind c.head ≡ false
  pub read_finite : not_finite c ≡ false
  pub in_range : out_of_range c ≡ false
  writable : unwritable kind (routine kind c (as_read c.head v)) ≡ false
  pub contact : s.contact ≡ (routine kind c (as_read c.head v)).contact
  vels : s.vels ≡ written_vels c.head v (routine kind c (as_read c.head v)).vels

pub known : (c : Contact) (kind : ℕ) (v : Vels) (rows : ℕ) (s : ContactSolved) → step c kind v rows ≡ Done s → Known c kind v s
unfolding step tried conditions asked checks holds_of
known c kind v rows s e =
    let seen = as_read c.head v in
    let w = written_as c.head v (tried c kind seen rows) s e in
    let p = passed_all (conditions c kind seen rows) (routine kind c seen) w.0 w.1 in
    record {
      counted = p.0.1.1.0;
      paired = p.0.1.1.1.0;
      read_finite = none_l (not_finite c) (not_finite_vels seen) p.0.1.1.1.1.0;
      in_range = p.0.1.1.1.1.1.0;
      writable = p.0.1.1.1.1.1.1.0;
      contact = w.3 ∙ ap (λ (x : ContactSolved). x.contact) (sym p.1);
      vels = w.4 ∙ ap (λ (x : ContactSolved). written_vels c.head v x.vels) (sym p.1);
    }

-- a refused step's number is one of the list's, and so not 0
named : (cs : List Condition) (made : ContactSolved) (n : ℕ) → distinct cs ≡ true → first_or cs made ≡ Refused n → n ≢ 0
unfolding first_or
named [] made n numbers e = absurd (not_both (sym e))
named (c ∷ cs) made n numbers e = by_case c.holds (apart c cs numbers) (named cs made n) e
  where
    by_case : (b : Bool) → Apart c cs → (distinct cs ≡ true → first_or cs made ≡ Refused n → n ≢ 0)
        → cond b (Refused c.number) (first_or cs made) ≡ Refused n → n ≢ 0
    by_case true off rest is = λ zero. eqb-false c.number 0 off.not_zero (let same : c.number ≡ n = cc in same ∙ zero)
    by_case false off rest is = rest off.later is

written_refused : (h : ContactHead) (v : Vels) (o : Outcome) (n : ℕ) → as_written h v o ≡ Refused n → o ≡ Refused n
unfolding as_written
written_refused h v (Refused m) n e = e
written_refused h v (Done s) n e = absurd (not_both (sym e))

pub refused_number : (c : Contact) (kind : ℕ) (v : Vels) (rows n : ℕ) → step c kind v rows ≡ Refused n → n ≢ 0
unfolding step tried
refused_number c kind v rows n e =
    let seen = as_read c.head v in
    named (conditions c kind seen rows) (routine kind c seen) n (distinct_numbers c kind seen rows) (written_refused c.head v (tried c kind seen rows) n e)

-- its bodies passed 5
pub bodies_passed : (c : Contact) (kind : ℕ) (v : Vels) (rows : ℕ) (s : ContactSolved) → step c kind v rows ≡ Done s → wrong_bodies c.head rows ≡ false
unfolding step tried conditions asked checks holds_of
bodies_passed c kind v rows s e =
    let seen = as_read c.head v in
    let w = written_as c.head v (tried c kind seen rows) s e in
    (passed_all (conditions c kind seen rows) (routine kind c seen) w.0 w.1).0.1.0

pub untouched : Untouched
untouched c kind v rows s e =
    let k = known c kind v rows s e in
    let seen = as_read c.head v in
    rw k.contact (routine_keeps c seen kind (two_points kind c.head k.counted k.paired))

pub same_head_kept : SameHead
same_head_kept c kind v rows s e = same_head (stores kind) c s.contact (untouched c kind v rows s e)

-- the floor's side is the old one
floor_side : (body : ℕ) (old new : SolverVel) → is_floor body ≡ true → writes body old new ≡ old
unfolding writes
floor_side body old new f = rw f

pub floor_kept : FloorKept
unfolding written_vels
floor_kept c kind v rows s e =
    let k = known c kind v rows s e in
    record {
      side1 = λ f. rw k.vels (floor_side c.head.body1 v.v1 (routine kind c (as_read c.head v)).vels.v1 f);
      side2 = λ f. rw k.vels (floor_side c.head.body2 v.v2 (routine kind c (as_read c.head v)).vels.v2 f);
    }

-- a real body's is the routine's
real_side : (body : ℕ) (old new : SolverVel) → is_floor body ≡ false → writes body old new ≡ new
unfolding writes
real_side body old new real = rw real

pub finite_done : FiniteDone
unfolding written_vels
finite_done c kind v rows s e =
    let k = known c kind v rows s e in
    let h = c.head in
    let seen = as_read h v in
    let m = routine kind c seen in
    let keeps = routine_keeps c seen kind (two_points kind h k.counted k.paired) in
    let head : m.contact.head ≡ h = same_head (stores kind) c m.contact keeps in
    let v1_finite : is_floor h.body1 ≡ false → finite_vel m.vels.v1 ≡ true = rw head at (velocity1_finite kind m k.writable) in
    let v2_finite : is_floor h.body2 ≡ false → finite_vel m.vels.v2 ≡ true = rw head at (velocity2_finite kind m k.writable) in
    let at_points = cells_finite kind c m keeps k.read_finite k.writable in
    record {
      velocity1 = rw (k.contact, k.vels, head) (λ real. rw (real_side h.body1 v.v1 m.vels.v1 real) (v1_finite real));
      velocity2 = rw (k.contact, k.vels, head) (λ real. rw (real_side h.body2 v.v2 m.vels.v2 real) (v2_finite real));
      at_a = rw k.contact (λ below. at_points at_a (lt-ltb 0 m.contact.head.count below));
      at_b = rw k.contact (λ below. at_points at_b (lt-ltb 1 m.contact.head.count below));
    }

-- a refusal has no branch, and a done step the routine's
refusal_or_made : (cs : List Condition) (made : ContactSolved) → branch (first_or cs made) ≤ branch_word made.branch
unfolding first_or
refusal_or_made [] made = omega arith
refusal_or_made (c ∷ cs) made = by_case c.holds (refusal_or_made cs made)
  where
    by_case : (b : Bool) → branch (first_or cs made) ≤ branch_word made.branch → branch (cond b (Refused c.number) (first_or cs made)) ≤ branch_word made.branch
    by_case true rest = omega arith
    by_case false rest = rest

routine_branch : (c : Contact) (kind : ℕ) (v : Vels) (rows : ℕ) → branch (step c kind v rows) ≤ branch_word (routine kind c (as_read c.head v)).branch
unfolding step tried
routine_branch c kind v rows =
    let seen = as_read c.head v in
    rw (same_branch c.head v (tried c kind seen rows)) (refusal_or_made (conditions c kind seen rows) (routine kind c seen))

pub branch_of_pairs : BranchOfPairs
branch_of_pairs c kind v rows other = omega (arith, routine_branch c kind v rows, ap branch_word (no_branch c (as_read c.head v) kind other))

one_of_six : (b : Branch) → branch_number b ≤ 6
one_of_six Both = omega arith
one_of_six OnlyA = omega arith
one_of_six OnlyB = omega arith
one_of_six Neither = omega arith
one_of_six Kept = omega arith
one_of_six Degraded = omega arith

pair_branch : (c : Contact) (v : Vels) → branch_word (routine 4 c v).branch ≤ 6
unfolding routine kind_of kinds pair_of
pair_branch c v =
    let h = c.head in
    one_of_six (pair c.a.normal_part c.b.normal_part h.dir1 h.im1 h.im2 h.k12 h.flag v).branch

pub few_branches : FewBranches
few_branches c kind v rows = by_kind (eqb kind 4) refl
  where
    by_kind : (b : Bool) → eqb kind 4 ≡ b → branch (step c kind v rows) ≤ 6
    by_kind true e = rw (eqb-true kind 4 e) (le_trans (routine_branch c 4 v rows) (pair_branch c (as_read c.head v)))
    by_kind false e = omega (arith, branch_of_pairs c kind v rows (eqb-false kind 4 e))
