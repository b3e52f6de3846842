-- Whether one of a list's steps has a number not below a bound, by the largest of these numbers. Assumes nothing.
use Prim.Native.Nat.{ℕ, zero, suc, ◌+◌, ◌≤◌, ◌<◌, max}
use native.Mathlib.Omega.{arith}
use native.Mathlib.Decide.{dec_lt}
use native.Mathlib.Nat.{le_refl, zero-max}
use native.Mathlib.Numerals.{add-one}
use borrow.Author.Tests.{le-leb, le-ltb, lt-leb, lt-ltb}
use mathlib.Core.Bool.{Bool, true, false, not, ◌&&◌, ◌||◌}
use mathlib.Core.List.{List}
use mathlib.Core.Path.{◌≡◌, refl, sym, ◌∙◌, ap}
use lib.Dec.{ltb}
use Rattle.base_places.specs.Places.{step_width}
use Rattle.base_rows.specs.Rows.{rows}
use Rattle.step_shape.specs.Shape.{kind_above}
use Rattle.list_tables.specs.Tables.{step_at}
use Rattle.list_tables.specs.declared.Step.{Step}
use Rattle.base_order.specs.OneByOne.{any}
use Rattle.base_order.proofs.Snoc.{any_none, any_snoc}
use Rattle.list_rules.specs.Sweep.{first_steps}
use Rattle.list_rules.proofs.Going.{first_more, first_none}
use Rattle.list_checks.specs.Checks.{KindAbove, NoContact, faulty, some_faulty}
use Rattle.list_checks.specs.LargestOf.{largest, largest_of}
use Rattle.list_checks.specs.declared.Most.{Most}

module _ (number : Step → ℕ) (steps : List ℕ) where
  -- no step, and one step more
  pub largest_none : 0 ≡ largest_of number steps 0
  unfolding largest_of
  largest_none = refl

  pub largest_more : (i : ℕ) {s : Step} {before now : ℕ} → before ≡ largest_of number steps i → s ≡ step_at steps i → now ≡ max before (number s)
      → now ≡ largest_of number steps (i + 1)
  unfolding largest_of
  largest_more i e f g = rw (add-one, ← e, ← f) g

  -- a test that the numbers from b on pass, and none below
  module _ (b : ℕ) (test : ℕ → Bool) (above : (x : ℕ) → b ≤ x → test x ≡ true) (below : (x : ℕ) → x < b → test x ≡ false) where
    -- one of two passes where the larger does
    either : (x y : ℕ) → (test x || test y) ≡ test (max x y)
    either x y = by_case (dec_lt x b) (dec_lt y b)
      where
        by_case : Dec (x < b) → Dec (y < b) → (test x || test y) ≡ test (max x y)
        by_case (yes p) (yes q) = rw (below x p, below y q, below (max x y) (omega arith))
        by_case (yes p) (no q) = rw (below x p, above y (omega (arith, q)), above (max x y) (omega (arith, q)))
        by_case (no p) q = rw (above x (omega (arith, p)), above (max x y) (omega (arith, p)))

    -- one of the first n steps has such a number
    abbrev some_of : ℕ → Bool
    some_of n = any (λ s. test (number s)) (first_steps steps n)

    more : (n : ℕ) → n < rows step_width steps → some_of (suc n) ≡ (some_of n || test (number (step_at steps n)))
    more n within = ap (any (λ s. test (number s))) (first_more steps n within) ∙ any_snoc (λ s. test (number s)) (first_steps steps n) (step_at steps n)

    none_yet : some_of 0 ≡ false
    none_yet = ap (any (λ s. test (number s))) (first_none steps) ∙ any_none (λ s. test (number s))

    up_to : (n : ℕ) → n < rows step_width steps → some_of (suc n) ≡ test (largest_of number steps (suc n))
    unfolding largest_of
    up_to zero within = more 0 within ∙ rw (none_yet, zero-max)
    up_to (suc n) within = more (suc n) within ∙ rw (up_to n (omega arith)) (either (largest_of number steps (suc n)) (number (step_at steps (suc n))))

    -- .. where there is a step, and the largest passes
    pub some_pass : (n : ℕ) → n ≤ rows step_width steps → (ltb 0 n && test (largest_of number steps n)) ≡ some_of n
    some_pass zero within = sym none_yet
    some_pass (suc n) within = rw (lt-ltb 0 (suc n) (omega arith)) (sym (up_to n within))

module _ (contacts : ℕ) (steps : List ℕ) {most : Most} (e : most ≡ largest steps) where
  -- 2: some step names a contact that is not there
  pub some_contact : (ltb 0 (rows step_width steps) && not (ltb most.contact contacts)) ≡ some_faulty NoContact contacts steps
  unfolding some_faulty faulty
  some_contact =
      rw e
      (some_pass (λ s. s.contact) steps contacts (λ x. not (ltb x contacts)) (λ x h. ap not (le-ltb x contacts h)) (λ x h. ap not (lt-ltb x contacts h))
      (rows step_width steps) (le_refl _))

  -- 3: some kind is above 4
  pub some_kind : {above : Bool} → above ≡ kind_above most.kind → (ltb 0 (rows step_width steps) && above) ≡ some_faulty KindAbove contacts steps
  unfolding some_faulty faulty kind_above
  some_kind f = rw (f, e) (some_pass (λ s. s.kind) steps _ kind_above (le-leb _) (lt-leb _) (rows step_width steps) (le_refl _))
