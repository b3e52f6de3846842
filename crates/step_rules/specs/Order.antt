-- Document 01, "Checks run in number order": the order in which a step's numbers are judged. A request that puts a number elsewhere changes
-- `checks` and this line. Proved in proofs/Order.antt. Assumes nothing.
use Rattle.std.specs.Prelude.{ℕ, List, [], ◌∷◌, ◌≡◌}
use Rattle.step_rules.specs.Step.{Check, checks}

unfoldable pub numbers : List Check → List ℕ
numbers [] = []
numbers (k ∷ ks) = k.number ∷ numbers ks

abbrev pub InNumberOrder : Type 0
InNumberOrder = numbers checks ≡ 3 ∷ 5 ∷ 6 ∷ 7 ∷ 8 ∷ 9 ∷ 10 ∷ []
