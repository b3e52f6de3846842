-- Lines are counted from 1: the first that differs is never line 0, so what is told by its number is the day's verdict. The law holds of other
-- orders of looking too, and no premise says which is looked at next: an edit of `first_differing` is to be refused where it breaks a fact, in
-- proofs/Online.antt, and not here for its shape. Assumes nothing.
use Prim.Native.Nat.{ℕ, zero, suc, ◌≤◌}
use native.Mathlib.Omega.{arith}
use mathlib.Core.Bool.{Bool, true, false}
use mathlib.Core.List.{List, [], ◌∷◌}
use mathlib.Core.Path.{◌≡◌, refl}
use Rattle.std.specs.Prelude.{Option, Some}
use Rattle.base_words.specs.Choice.{if◌then◌otherwise◌}
use Rattle.replay_days.specs.Judged.{first_differing, same, verdict}
use Rattle.replay_days.specs.Going.{counted_verdict}

some_line : (day n : ℕ) → 1 ≤ n → verdict day (Some n) ≡ counted_verdict day (Some n)
unfolding verdict counted_verdict
some_line day zero le = absurd (omega (arith, le))
some_line day (suc n) le = refl

this_or_later : (day n : ℕ) → 1 ≤ n → (s : Bool) (later : Option ℕ) → verdict day later ≡ counted_verdict day later
    → verdict day (if s then later otherwise Some n) ≡ counted_verdict day (if s then later otherwise Some n)
this_or_later day n le true later e = e
this_or_later day n le false later e = some_line day n le

pub counted : (day : ℕ) (lines recorded : List (List ℕ)) (n : ℕ) → 1 ≤ n
    → verdict day (first_differing n lines recorded) ≡ counted_verdict day (first_differing n lines recorded)
unfolding first_differing verdict counted_verdict
counted day [] [] n le = refl
counted day [] (r ∷ recorded) n le = search (some_line, le)
counted day (l ∷ lines) [] n le = search (some_line, le)
counted day (l ∷ lines) (r ∷ recorded) n le = this_or_later day n le (same l r) _ (counted day lines recorded _ (omega (arith, le)))
