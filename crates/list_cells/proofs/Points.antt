-- A point and a contact are written right where each part is. Assumes nothing.
use Prim.Native.Nat.{ℕ, ◌<◌}
use mathlib.Core.Bool.{Bool, ◌&&◌}
use mathlib.Core.List.{List}
use mathlib.Core.Path.{◌≡◌, ◌∙◌, ap}
use lib.Dec.{ltb}
use lib.Ieee.{Float}
use lib.ListN.{drop, length, take}
use borrow.Rule.Slice.PartMut.{put_mid}
use Rattle.base_places.proofs.Fits.{cell_fits}
use Rattle.base_places.specs.Places.{place, point_place, point_width}
use Rattle.base_places.specs.declared.Cell.{Cell}
use Rattle.base_places.specs.declared.Cell.TheVariants.{NormalImpulse, TangentImpulse}
use Rattle.step_contact.specs.Cells.{in_cell}
use Rattle.step_contact.specs.declared.Contact.{Contact}
use Rattle.step_contact.specs.declared.ContactHead.{ContactHead}
use Rattle.step_contact.specs.declared.ContactPoint.{ContactPoint}
use Rattle.step_kinds.specs.Table.{stores}
use Rattle.base_rows.specs.Rows.{on_part}
use Rattle.base_rows.proofs.Lent.{part_written}
use Rattle.list_cells.specs.Cells.{put_cells, put_contact, put_if, put_point}

module _ (l : List Float) where
  pub cell_inside : (c : Cell) {i : ℕ} → i ≡ place c → length l ≡ point_width → i < length l
  cell_inside c e long = rw (e, long) (cell_fits c)

  pub cell_written : (c : Cell) (stored : Bool) (p : ContactPoint) {i : ℕ} {x : Float} {e : List Float} → i ≡ place c → x ≡ in_cell c p → e ≡ put_if stored i x l
      → e ≡ put_if stored (place c) (in_cell c p) l
  cell_written c stored p at this put = rw (← at, ← this) put

  pub point_written : (kind : ℕ) (h : ContactHead) (p : ℕ) (x : ContactPoint) {n t : Bool} {m e : List Float}
      → n ≡ stores kind NormalImpulse → t ≡ stores kind TangentImpulse
      → m ≡ put_if (ltb p h.count && n) (place NormalImpulse) (in_cell NormalImpulse x) l
      → e ≡ put_if (ltb p h.count && t) (place TangentImpulse) (in_cell TangentImpulse x) m → e ≡ put_point kind h p x l
  unfolding put_point put_cells
  point_written kind h p x n t first second = rw (← n, ← t, ← first) second

  pub contact_written : (kind : ℕ) (c : Contact) {x y : List Float}
      → x ≡ put_point kind c.head 0 c.a (take point_width (drop (point_place 0) l))
      → y ≡ put_point kind c.head 1 c.b (take point_width (drop (point_place 1) (put_mid (point_place 0) point_width l x)))
      → put_mid (point_place 1) point_width (put_mid (point_place 0) point_width l x) y ≡ put_contact kind c l
  unfolding put_contact
  contact_written kind c {x} {y} p q =
      part_written (point_place 1) point_width (put_mid (point_place 0) point_width l x) _ q
      ∙ ap (on_part (point_place 1) point_width _) (part_written (point_place 0) point_width l _ p)
