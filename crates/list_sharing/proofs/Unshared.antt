-- Steps that have nothing but the floor in common share nothing. Assumes nothing.
use Prim.Native.Nat.{ℕ, ◌≤◌, ◌<◌}
use native.Mathlib.Omega.{arith}
use mathlib.Core.Logic.{⊎_elim}
use Rattle.list_sharing.specs.Sharing.{a_body, a_contact}
use Rattle.list_sharing.specs.Unshared.{FloorUnshared}

-- no number is below another and not below it
not_past : (b n : ℕ) → b < n → n ≤ b → ⊥
not_past b n h past = omega arith

pub floor_unshared : FloorUnshared
floor_unshared t s u ne others (a_contact h e) = ne e
floor_unshared t s u ne others (a_body b h real n m) = ⊎_elim real (not_past b _ h) (others b n m)
