-- Demand 3, for any kind of step: two lists of the same steps, what has to stand in the same order, and what it means that
-- both come to the same. Assumes nothing.
use Rattle.std.specs.Prelude.{ℕ, ◌<◌, Bool, List, ◌≡◌, get_or, length}
use Rattle.base_order.specs.OneByOne.{Stepped, answers, count, finish}

-- The two lists hold the same steps: each place i of xs has its place `there i` in ys, each place of ys is met exactly once, and equal
-- steps stand at both. Any two steps that share something stand in the same order. (d is what get_or gives past a list's end; nothing
-- here is asked there.)
pub record Reordered {S : Type 0} (Shares : S → S → Type 0) (d : S) (xs ys : List S) : Type 0 where
  pub there : ℕ → ℕ
  pub back : ℕ → ℕ
  pub there_inside : (i : ℕ) → i < length xs → there i < length ys
  pub back_inside : (j : ℕ) → j < length ys → back j < length xs
  pub back_there : (i : ℕ) → i < length xs → back (there i) ≡ i
  pub there_back : (j : ℕ) → j < length ys → there (back j) ≡ j
  pub same_step : (i : ℕ) → i < length xs → get_or ys (there i) d ≡ get_or xs i d
  pub same_order : (i j : ℕ) → i < j → j < length xs → Shares (get_or xs i d) (get_or xs j d) → there i < there j

-- Each step has the same answer in both runs, the runs end in the same state, and every count of answers is the same. (e is what get_or
-- gives past the end.)
pub record SameOutcome {S St A : Type 0} (step : S → St → Stepped A St) (there : ℕ → ℕ) (e : A) (xs ys : List S) (st : St) : Type 0 where
  pub same_answer : (i : ℕ) → i < length xs → get_or (answers step ys st) (there i) e ≡ get_or (answers step xs st) i e
  pub same_end : finish step ys st ≡ finish step xs st
  pub same_count : (test : A → Bool) → count test (answers step ys st) ≡ count test (answers step xs st)

-- Two steps in a row, either way round: the same answers, the same state.
pub record Commute {S St A : Type 0} (step : S → St → Stepped A St) (s t : S) (st : St) : Type 0 where
  pub first : (step s (step t st).after).answer ≡ (step s st).answer
  pub second : (step t (step s st).after).answer ≡ (step t st).answer
  pub ends : (step s (step t st).after).after ≡ (step t (step s st).after).after
