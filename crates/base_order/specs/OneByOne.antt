-- Document 01, "What the contracts have to leave no room for": "the plain one-by-one definition", a list of steps done from its front.
-- For any kind of step S, state St and answer A. Assumes nothing.
use Rattle.std.specs.Prelude.{ℕ, ◌+◌, Bool, false, ◌||◌, List, [], ◌∷◌}
use Rattle.base_words.specs.Choice.{if◌then◌otherwise◌}

-- what a step comes to: its answer, and the state after it
pub record Stepped (A St : Type 0) : Type 0 where
  pub answer : A
  pub after : St

module _ {S St A : Type 0} (step : S → St → Stepped A St) where
  -- the state after the whole list: a refused step does not stop it
  unfoldable pub finish : List S → St → St
  finish [] st = st
  finish (s ∷ ss) st = finish ss (step s st).after

  -- the answers of its steps, in the list's order
  unfoldable pub answers : List S → St → List A
  answers [] st = []
  answers (s ∷ ss) st = (step s st).answer ∷ answers ss (step s st).after

-- how many of a list pass a test
unfoldable pub count : {A : Type 0} → (A → Bool) → List A → ℕ
count test [] = 0
count test (a ∷ l) = (if test a then 1 otherwise 0) + count test l

-- whether one of a list passes it
unfoldable pub any : {A : Type 0} → (A → Bool) → List A → Bool
any test [] = false
any test (a ∷ l) = test a || any test l
