-- Two lines are the same exactly if they are equal. Assumes nothing.
use Prim.Native.Nat.{ℕ}
use borrow.Author.Tests.{eq-eqb, eqb-true}
use mathlib.Core.Bool.{true}
use mathlib.Core.List.{List, [], ◌∷◌}
use mathlib.Core.Path.{◌≡◌, refl, sym}
use lib.Dec.{eqb}
use Rattle.base_words.proofs.Pick.{never}
use Rattle.base_words.proofs.Said.{all_l, all_r}
use Rattle.replay_days.specs.Judged.{same}
use Rattle.replay_days.specs.Same.{SameMeans}

pub same_itself : (l : List ℕ) → same l l ≡ true
unfolding same
same_itself [] = refl
same_itself (a ∷ l) = rw (eq-eqb a a refl, same_itself l)

pub same_equal : (s t : List ℕ) → same s t ≡ true → s ≡ t
unfolding same
same_equal [] [] e = refl
same_equal [] (b ∷ t) e = never (sym e)
same_equal (a ∷ s) [] e = never (sym e)
same_equal (a ∷ s) (b ∷ t) e =
    let first : a ≡ b = eqb-true a b (all_l (eqb a b) (same s t) e) in
    let rest : s ≡ t = same_equal s t (all_r (eqb a b) (same s t) e) in
    rw (first, rest)

pub same_means : SameMeans
same_means s t = (same_equal s t, λ e. rw e (same_itself t))
