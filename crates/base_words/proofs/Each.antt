-- What holds of each of a list: how it is shown, and that it holds of the one at any place, past the end of what stands in. Assumes nothing.
use Prim.Native.Nat.{ℕ, zero, suc}
use mathlib.Core.List.{List, [], ◌∷◌}
use lib.ListN.{get_or}
use Rattle.base_words.specs.Each.{Each}

-- a proof of it, one after the other in the list's order, with tt for the end
infixr 2 ◌and◌
abbrev pub ◌and◌ : {A B : Type 0} → A → B → A × B
a and b = (a, b)

pub each_at : {A : Type 0} (P : A → Type 0) (past : A) → P past → (l : List A) → Each P l → (k : ℕ) → P (get_or l k past)
each_at P past p [] all k = p
each_at P past p (a ∷ l) all zero = all.0
each_at P past p (a ∷ l) all (suc k) = each_at P past p l all.1 k
