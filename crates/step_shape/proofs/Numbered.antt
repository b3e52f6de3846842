-- The statements of specs/Numbered.antt, kind by kind. Assumes nothing.
use Prim.Native.Nat.{zero, suc, ◌<◌}
use native.Mathlib.Decide.{dec_lt}
use native.Mathlib.Omega.{arith}
use mathlib.Core.Path.{◌≡◌, refl, sym, ◌∙◌}
use borrow.Author.Tests.{le-leb, le-ltb, lt-leb, lt-ltb, ne_eqb}
use lib.Dec.{ltb}
use lib.ListN.{length}
use Rattle.step_kinds.specs.Table.{kind_of, kinds, no_kind, points_for}
use Rattle.step_shape.specs.Numbered.{AboveFour, FourAndOne}
use Rattle.step_shape.specs.Shape.{kind_above, pair_of_one}

pub above_four : AboveFour
unfolding kind_above kinds
above_four kind = by_case (dec_lt 4 kind)
  where
    by_case : Dec (4 < kind) → kind_above kind ≡ ltb 4 kind
    by_case (yes h) = le-leb (length kinds) kind (omega arith) ∙ sym (lt-ltb 4 kind h)
    by_case (no h) = lt-leb (length kinds) kind (omega arith) ∙ sym (le-ltb 4 kind (omega arith))

pub four_and_one : FourAndOne
unfolding pair_of_one points_for kind_of kinds no_kind
four_and_one zero h = refl
four_and_one (suc zero) h = refl
four_and_one (suc (suc zero)) h = refl
four_and_one (suc (suc (suc zero))) h = refl
four_and_one (suc (suc (suc (suc zero)))) h = refl
four_and_one (suc (suc (suc (suc (suc kind))))) h = rw (ne_eqb (suc (suc (suc (suc (suc kind))))) 4 (λ e. omega arith))
