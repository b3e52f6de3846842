-- No two refusals have the same number: each is found again by it. Assumes nothing.
use Prim.Native.Nat.{ℕ}
use mathlib.Core.List.{[], ◌∷◌}
use mathlib.Core.Path.{◌≡◌, refl, sym, ◌∙◌, ap}
use lib.ListN.{get_or}
use Rattle.base_refusals.specs.Numbers.{OneNumberEach, refusal_number}
use Rattle.base_refusals.specs.declared.Refusal.{Refusal}
use Rattle.base_refusals.specs.declared.Refusal.TheVariants.{KindAbove, NoContact, NoRoom, NotFinite, OutOfRange, PairOfOne, Unwritable, WrongBodies, WrongCount, WrongSizes}

abbrev refusal_of : ℕ → Refusal
refusal_of n =
    get_or
    (Unwritable ∷ WrongSizes ∷ NoContact ∷ KindAbove ∷ NoRoom ∷ WrongBodies ∷ WrongCount ∷ PairOfOne ∷ NotFinite ∷ OutOfRange ∷ []) n
    Unwritable

found_again : (r : Refusal) → refusal_of (refusal_number r) ≡ r
found_again WrongSizes = refl
found_again NoContact = refl
found_again KindAbove = refl
found_again NoRoom = refl
found_again WrongBodies = refl
found_again WrongCount = refl
found_again PairOfOne = refl
found_again NotFinite = refl
found_again OutOfRange = refl
found_again Unwritable = refl

pub one_number_each : OneNumberEach
one_number_each r r' e = sym (found_again r) ∙ ap refusal_of e ∙ found_again r'
