-- Tests made in turn, each only where the ones before it failed: what they come to is one `or` of all. s, t and x are what was found. Assumes nothing.
use Prim.Native.Nat.{ℕ}
use mathlib.Core.Path.{◌≡◌, refl, sym, ◌∙◌}
use mathlib.Core.Bool.{Bool, true, false, not, ◌&&◌, ◌||◌}
use borrow.Author.Tests.{eqb-true, ne_eqb}
use lib.Dec.{eqb, ltb}
use Rattle.base_words.proofs.Pick.{never}
use Rattle.step_contact.specs.declared.ContactHead.{ContactHead}
use Rattle.step_shape.specs.Shape.{wrong_count}
use Rattle.step_values.specs.Values.{below_count}

-- what a test is, by what was found
pub found : {s p : Bool} → s ≡ p → s ≡ false → p ≡ false
found e h = sym e ∙ h

pub denied : {s p : Bool} → s ≡ p → not s ≡ not p
denied e = rw e

-- two tests in the place of one
pub former : {p : Bool} (q : Bool) → p ≡ true → (p || q) ≡ true
former q h = rw h

pub latter : {p q : Bool} → p ≡ false → q ≡ true → (p || q) ≡ true
latter h k = rw (h, k)

pub neither : {p q : Bool} → p ≡ false → q ≡ false → (p || q) ≡ false
neither h k = rw (h, k)

-- three tests, p, q and r
module _ {p : Bool} (q r : Bool) where
  pub first_turn : p ≡ true → true ≡ (p || q || r)
  first_turn h = rw h

  pub second_turn : {s : Bool} → p ≡ false → s ≡ q → s ≡ true → true ≡ (p || q || r)
  second_turn h e k = rw (h, ← e, k)

  pub third_turn : {s x : Bool} → p ≡ false → s ≡ q → s ≡ false → x ≡ r → x ≡ (p || q || r)
  third_turn h e k f = rw (h, ← e, k) f

-- count is 1 or 2: a is below it, and b where it is 2
counts : (n : ℕ) (x y : Bool) → eqb n 1 ≡ x → eqb n 2 ≡ y → not (x || y) ≡ false → (ltb 0 n ≡ true) × (ltb 1 n ≡ y)
counts n true y one two e = rw (eqb-true n 1 one) (refl, rw (eqb-true n 1 one) at two)
counts n false true one two e = rw (eqb-true n 2 two) (refl, refl)
counts n false false one two e = never e

-- a test p of the head, then a and b, what a test of the points below count comes to
module _ (h : ContactHead) (counted : wrong_count h ≡ false) (a b : Bool) where
  points : below_count h a b ≡ (a || eqb h.count 2 && b)
  unfolding wrong_count below_count
  points = let said = counts h.count (eqb h.count 1) (eqb h.count 2) refl refl counted in rw (said.0, said.1)

  module _ {s p : Bool} (head : s ≡ p) where
    pub at_head : s ≡ true → true ≡ (p || below_count h a b)
    at_head k = rw (← head, k)

    module _ {t : Bool} (head_well : s ≡ false) (first : t ≡ a) where
      pub at_a : t ≡ true → true ≡ (p || below_count h a b)
      at_a k = rw (points, ← head, head_well, ← first, k)

      pub at_b : {x : Bool} → t ≡ false → h.count ≡ 2 → x ≡ b → x ≡ (p || below_count h a b)
      at_b k two e = rw (points, ← head, head_well, ← first, k, two) e

      pub at_none : t ≡ false → (h.count ≡ 2 → ⊥) → false ≡ (p || below_count h a b)
      at_none k one = rw (points, ← head, head_well, ← first, k, ne_eqb h.count 2 one)
