-- No step, and one step more at a list's end: what it does to the state, the answers and the counts. Assumes nothing.
use Prim.Native.Nat.{ℕ, suc, ◌+◌, ◌≤◌}
use native.Mathlib.Omega.{arith}
use native.Mathlib.Nat.{add_assoc}
use mathlib.Core.Bool.{Bool, true, false, ◌||◌}
use mathlib.Core.List.{List, [], ◌∷◌, ◌++◌}
use mathlib.Core.Path.{◌≡◌, refl, sym, ◌∙◌, ap}
use lib.ListN.{length}
use Rattle.base_words.specs.Choice.{if◌then◌otherwise◌}
use Rattle.base_order.specs.OneByOne.{Stepped, answers, any, count, finish}

module _ {S St A : Type 0} (step : S → St → Stepped A St) where
  -- no step: the state stays, and nothing is answered
  pub finish_none : (st : St) → finish step [] st ≡ st
  unfolding finish
  finish_none st = refl

  pub answers_none : (st : St) → answers step [] st ≡ []
  unfolding answers
  answers_none st = refl

  pub finish_snoc : (ss : List S) (s : S) (st : St) → finish step (ss ++ (s ∷ [])) st ≡ (step s (finish step ss st)).after
  unfolding finish
  finish_snoc [] s st = refl
  finish_snoc (x ∷ ss) s st = finish_snoc ss s (step x st).after

  pub answers_snoc : (ss : List S) (s : S) (st : St) → answers step (ss ++ (s ∷ [])) st ≡ answers step ss st ++ ((step s (finish step ss st)).answer ∷ [])
  unfolding finish answers
  answers_snoc [] s st = refl
  answers_snoc (x ∷ ss) s st = ap (λ (m : List A). (step x st).answer ∷ m) (answers_snoc ss s (step x st).after)

  -- every step has its answer
  pub length_answers : (ss : List S) (st : St) → length (answers step ss st) ≡ length ss
  unfolding answers
  length_answers [] st = refl
  length_answers (x ∷ ss) st = ap suc (length_answers ss (step x st).after)

-- a test counts for one at most
pub one_at_most : (b : Bool) → (if b then 1 otherwise 0) ≤ 1
one_at_most true = omega arith
one_at_most false = omega arith

module _ {A : Type 0} (test : A → Bool) where
  pub count_none : count test [] ≡ 0
  unfolding count
  count_none = refl

  pub count_snoc : (l : List A) (a : A) → count test (l ++ (a ∷ [])) ≡ count test l + (if test a then 1 otherwise 0)
  unfolding count
  count_snoc [] a = omega arith
  count_snoc (x ∷ l) a =
      ap (λ (n : ℕ). (if test x then 1 otherwise 0) + n) (count_snoc l a) ∙ sym (add_assoc (if test x then 1 otherwise 0) (count test l) (if test a then 1 otherwise 0))

  pub count_le : (l : List A) → count test l ≤ length l
  unfolding count
  count_le [] = omega arith
  count_le (x ∷ l) = omega (arith, count_le l, one_at_most (test x))

  or_assoc : (a b c : Bool) → (a || (b || c)) ≡ (a || b || c)
  or_assoc true b c = refl
  or_assoc false b c = refl

  or_false : (a : Bool) → (a || false) ≡ a
  or_false true = refl
  or_false false = refl

  pub any_none : any test [] ≡ false
  unfolding any
  any_none = refl

  pub any_snoc : (l : List A) (a : A) → any test (l ++ (a ∷ [])) ≡ (any test l || test a)
  unfolding any
  any_snoc [] a = or_false (test a)
  any_snoc (x ∷ l) a = ap (λ (b : Bool). test x || b) (any_snoc l a) ∙ or_assoc (test x) (any test l) (test a)
