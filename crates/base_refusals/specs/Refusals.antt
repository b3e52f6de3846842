-- Document 01, "Numbers that refuse": numbers with their conditions in the order of judging, and what it means that a number is
-- "given exactly when". A number has its place in that order by where it stands in a list, not by how large it is. Assumes nothing.
use Rattle.std.specs.Prelude.{ℕ, ◌<◌, ◌≡◌, ◌↔◌, Bool, true, false, ◌&&◌, ◌||◌, List, [], ◌∷◌, eqb}
use Rattle.base_words.specs.Choice.{if◌then◌otherwise◌}

-- a number, and whether its condition holds
pub record Condition : Type 0 where
  pub number : ℕ
  pub holds : Bool

infix 70 ◌when◌
abbrev pub ◌when◌ : ℕ → Bool → Condition
n when b = record { number = n; holds = b }

-- the number of the first condition that holds; 0 where none does
unfoldable pub first : List Condition → ℕ
first [] = 0
first (c ∷ cs) = if c.holds then c.number otherwise first cs

-- whether the condition of number n holds; a number that the list does not have has none
unfoldable pub holds_for : ℕ → List Condition → Bool
holds_for n [] = false
holds_for n (c ∷ cs) = eqb n c.number && c.holds || holds_for n cs

-- the conditions that stand before number n's
unfoldable pub earlier : ℕ → List Condition → List Condition
earlier n [] = []
earlier n (c ∷ cs) = if eqb n c.number then [] otherwise c ∷ earlier n cs

-- whether some condition of a list holds
unfoldable pub some_holds : List Condition → Bool
some_holds [] = false
some_holds (c ∷ cs) = c.holds || some_holds cs

-- number n's condition holds and no earlier one does
abbrev pub FirstOf : ℕ → List Condition → Type 0
FirstOf n cs = (holds_for n cs ≡ true) × (some_holds (earlier n cs) ≡ false)

-- "each refusal is given exactly when its number's condition holds and no earlier one does"; 0 exactly when none holds
pub record Exactly (given : ℕ) (cs : List Condition) : Type 0 where
  pub refused : (n : ℕ) → 0 < n → (given ≡ n) ↔ FirstOf n cs
  pub success : (given ≡ 0) ↔ (some_holds cs ≡ false)
