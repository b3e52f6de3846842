-- A point and a contact are read right where each part is. Assumes nothing.
use Prim.Native.Nat.{ℕ, ◌+◌, ◌*◌, ◌-◌, ◌≤◌, ◌<◌}
use mathlib.Core.List.{List}
use mathlib.Core.Path.{◌≡◌}
use lib.Ieee.{Float}
use lib.ListN.{take, drop}
use Rattle.base_places.specs.Places.{floats_width, numbers_width}
use Rattle.elem_tangent.specs.declared.ContactConstraintTangentPart.{ContactConstraintTangentPart}
use Rattle.elem_normal.specs.declared.ContactConstraintNormalPart.{ContactConstraintNormalPart}
use Rattle.step_contact.specs.Contact.{contact_zero}
use Rattle.step_contact.specs.declared.Contact.{Contact}
use Rattle.step_contact.specs.declared.ContactHead.{ContactHead}
use Rattle.step_contact.specs.declared.ContactPoint.{ContactPoint}
use Rattle.base_rows.specs.Rows.{read_row, rows}
use Rattle.base_rows.proofs.Lent.{between, read_past, read_there}
use Rattle.list_tables.specs.Tables.{contact_at, contact_of, head_of, normal_of, point_of, tangent_of}

module _ (l : List Float) where
  pub point_read : {n : ContactConstraintNormalPart} {t : ContactConstraintTangentPart} → n ≡ normal_of (take 10 (drop 0 l))
      → t ≡ tangent_of (take 8 (drop 10 l)) → record { normal_part = n; tangent_part = t } ≡ point_of l
  unfolding point_of
  point_read p q = rw (← between 0 10 l, ← between 10 8 l) (cc)

  pub contact_read : (numbers : List ℕ) {head : ContactHead} {a b : ContactPoint} → head ≡ head_of numbers (take 9 (drop 0 l))
      → a ≡ point_of (take 18 (drop 9 l)) → b ≡ point_of (take 18 (drop 27 l)) → record { head = head; a = a; b = b } ≡ contact_of numbers l
  unfolding contact_of
  contact_read numbers p q r = rw (← between 0 9 l, ← between 9 18 l, ← between 27 18 l) (cc)

-- contact k by which of its rows are there
module _ (numbers : List ℕ) (floats : List Float) (k : ℕ) {c : Contact} where
  pub no_numbers : rows numbers_width numbers ≤ k → c ≡ contact_zero → c ≡ contact_at numbers floats k
  unfolding contact_at
  no_numbers h e = read_past numbers_width k numbers (λ ids. read_row floats_width k (contact_of ids) contact_zero floats) contact_zero h e

  pub no_floats : k < rows numbers_width numbers → rows floats_width floats ≤ k → c ≡ contact_zero → c ≡ contact_at numbers floats k
  unfolding contact_at
  no_floats h i e =
      read_there 3 k numbers (λ ids. read_row floats_width k (contact_of ids) contact_zero floats) contact_zero h
      (read_past floats_width k floats (contact_of (take (k * 3 + 3 - k * 3) (drop (k * 3) numbers))) contact_zero i e)

  pub both_there : k < rows numbers_width numbers → k < rows floats_width floats
      → c ≡ contact_of (take (k * 3 + 3 - k * 3) (drop (k * 3) numbers)) (take (k * 45 + 45 - k * 45) (drop (k * 45) floats))
      → c ≡ contact_at numbers floats k
  unfolding contact_at
  both_there h i e =
      read_there 3 k numbers (λ ids. read_row floats_width k (contact_of ids) contact_zero floats) contact_zero h
      (read_there 45 k floats (contact_of (take (k * 3 + 3 - k * 3) (drop (k * 3) numbers))) contact_zero i e)
