-- What is known of a contact's points where 6 and 7 do not hold. Assumes nothing.
use Prim.Native.Nat.{ℕ, ◌<◌}
use native.Mathlib.Omega.{arith}
use mathlib.Core.Path.{◌≡◌, refl}
use mathlib.Core.Bool.{Bool, true, false, not, ◌||◌}
use borrow.Author.Tests.{eq-eqb, eqb-true}
use lib.Dec.{eqb}
use Rattle.base_words.proofs.Pick.{never}
use Rattle.step_contact.specs.declared.ContactHead.{ContactHead}
use Rattle.step_kinds.specs.Table.{points_for}
use Rattle.step_shape.specs.Shape.{pair_of_one, wrong_count}

-- 6 and 7: a kind that needs two points has them
pub two_points : (kind : ℕ) (h : ContactHead) → wrong_count h ≡ false → pair_of_one kind h ≡ false → points_for kind ≡ 2 → 1 < h.count
unfolding wrong_count pair_of_one
two_points kind h count one pair = by_count (eqb h.count 1) (eqb h.count 2) refl (rw (eq-eqb (points_for kind) 2 pair) at one) count
  where
    by_count : (x y : Bool) → eqb h.count 2 ≡ y → x ≡ false → not (x || y) ≡ false → 1 < h.count
    by_count true y two not-one counted = never not-one
    by_count false true two not-one counted = let z : h.count ≡ 2 = eqb-true h.count 2 two in omega arith
    by_count false false two not-one counted = never counted
