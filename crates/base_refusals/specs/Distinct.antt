-- When the first condition that holds is given exactly. Proved in proofs/Exact.antt. Assumes nothing.
use Rattle.std.specs.Prelude.{ℕ, ◌≡◌, Bool, true, false, not, ◌&&◌, ◌||◌, List, [], ◌∷◌, eqb}
use Rattle.base_refusals.specs.Refusals.{Condition, Exactly, first}

-- number n stands in a list
unfoldable pub stands : ℕ → List Condition → Bool
stands n [] = false
stands n (c ∷ cs) = eqb n c.number || stands n cs

-- each number stands once, and 0, which is success, not at all
unfoldable pub distinct : List Condition → Bool
distinct [] = true
distinct (c ∷ cs) = not (eqb c.number 0) && not (stands c.number cs) && distinct cs

-- in a list of distinct numbers it is
abbrev pub FirstIsExact : Type 0
FirstIsExact = (cs : List Condition) → distinct cs ≡ true → Exactly (first cs) cs
