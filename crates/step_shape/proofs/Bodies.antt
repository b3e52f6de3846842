-- What is known of a contact's bodies where 5 does not hold. Assumes nothing.
use Prim.Native.Nat.{ℕ, ◌<◌}
use mathlib.Core.Bool.{Bool, true, false, not, ◌||◌}
use mathlib.Core.Logic.{◌≢◌}
use mathlib.Core.Path.{◌≡◌, refl}
use borrow.Author.Tests.{eq-eqb, eqb-false, ltb-true}
use lib.Dec.{eqb, ltb}
use Rattle.base_words.proofs.Pick.{never}
use Rattle.step_contact.specs.Contact.{is_floor}
use Rattle.step_contact.specs.declared.ContactHead.{ContactHead}
use Rattle.step_shape.specs.Shape.{nowhere, wrong_bodies}

-- each is somewhere, and they are not the same
pub record RightBodies (h : ContactHead) (rows : ℕ) : Type 0 where
  pub found1 : nowhere h.body1 rows ≡ false
  pub found2 : nowhere h.body2 rows ≡ false
  pub differ : h.body1 ≢ h.body2

pub right_bodies : (h : ContactHead) (rows : ℕ) → wrong_bodies h rows ≡ false → RightBodies h rows
unfolding wrong_bodies
right_bodies h rows right =
    by_case (nowhere h.body1 rows) (nowhere h.body2 rows) (eqb h.body1 h.body2) refl refl refl right
  where
    by_case : (x y z : Bool) → nowhere h.body1 rows ≡ x → nowhere h.body2 rows ≡ y → eqb h.body1 h.body2 ≡ z
        → (x || y || z) ≡ false → RightBodies h rows
    by_case false false false p q r e = record { found1 = p; found2 = q; differ = eqb-false h.body1 h.body2 r }
    by_case false false true p q r e = never e
    by_case false true z p q r e = never e
    by_case true y z p q r e = never e

-- a body joined with itself is wrong
pub with_itself : (h : ContactHead) (rows : ℕ) → h.body1 ≡ h.body2 → wrong_bodies h rows ≡ true
unfolding wrong_bodies
with_itself h rows same = by_case (nowhere h.body1 rows) (nowhere h.body2 rows)
  where
    by_case : (x y : Bool) → (x || y || eqb h.body1 h.body2) ≡ true
    by_case true y = refl
    by_case false true = refl
    by_case false false = eq-eqb h.body1 h.body2 same

-- a body that is somewhere and not the floor is in the table
pub in_table : (body rows : ℕ) → nowhere body rows ≡ false → is_floor body ≡ false → body < rows
in_table body rows found real = ltb-true body rows (by_case (ltb body rows) (rw real at found))
  where
    by_case : (b : Bool) → not (b || false) ≡ false → b ≡ true
    by_case true e = refl
    by_case false e = never e
