-- What is known of a line tells whether it is the D or the Z. Assumes nothing.
use Prim.Native.Nat.{ℕ}
use mathlib.Core.Bool.{Bool, true, false, ◌&&◌}
use mathlib.Core.List.{List, [], ◌∷◌}
use mathlib.Core.Path.{◌≡◌, refl, ◌∙◌}
use lib.Dec.{eqb}
use Rattle.replay_days.specs.Judged.{only_d, only_z, same}
use Rattle.replay_days.proofs.Same.{same_equal}
use Rattle.replay_compare.specs.Spots.{holds_only, shape_of}
use Rattle.replay_compare.specs.declared.LineSoFar.{LineSoFar}

and_true : (t : Bool) → t ≡ (t && true)
and_true true = refl
and_true false = refl

and_false : (t : Bool) → false ≡ (t && false)
and_false true = refl
and_false false = refl

only : (l : List ℕ) (b : ℕ) → holds_only (shape_of l) b ≡ same l (b ∷ [])
unfolding same
only [] b = refl
only (c ∷ []) b = and_true (eqb c b)
only (c ∷ d ∷ l) b = and_false (eqb c b)

module _ {line : LineSoFar} (l : List ℕ) (is : line ≡ shape_of l) {t : Bool} where
  pub is_d : t ≡ holds_only line 68 → t ≡ only_d l
  unfolding only_d
  is_d e = e ∙ rw is (only l 68)

  pub is_z : t ≡ holds_only line 90 → t ≡ only_z l
  unfolding only_z
  is_z e = e ∙ rw is (only l 90)

pub d_is : (l : List ℕ) → only_d l ≡ true → l ≡ 68 ∷ []
unfolding only_d
d_is l e = same_equal l (68 ∷ []) e
