-- A point whose cells were stored to passes 8 and 9 as before, if its new cells do. Assumes nothing.
use mathlib.Core.Path.{◌≡◌, refl, sym, ap, ◌∙◌}
use mathlib.Core.Bool.{Bool, true, false, ◌&&◌, ◌||◌}
use lib.Dec.{ltb}
use lib.Ieee.{Float}
use Rattle.elem_leaves.specs.Finite.{finite}
use Rattle.elem_leaves.specs.Signs.{NotBelow0}
use Rattle.elem_tangent.specs.Tangent.{tangent_with}
use Rattle.elem_normal.specs.Normal.{normal_with}
use Rattle.base_places.specs.Places.{cells}
use Rattle.base_places.specs.declared.Cell.{Cell}
use Rattle.base_places.specs.declared.Cell.TheVariants.{NormalImpulse, TangentImpulse}
use Rattle.step_contact.specs.Cells.{in_cell, with_cell}
use Rattle.step_contact.specs.declared.Contact.{Contact}
use Rattle.step_contact.specs.declared.ContactHead.{ContactHead}
use Rattle.step_contact.specs.declared.ContactPoint.{ContactPoint}
use Rattle.step_kinds.proofs.Stored.{outlasts}
use Rattle.step_contact.specs.Places.{Place, at_a, at_b, number, point}
use Rattle.step_kinds.specs.Stored.{stored_at}
use Rattle.step_values.proofs.Passed.{cell_finite, in_range}
use Rattle.step_values.specs.Values.{below_count, finite_normal, finite_point, finite_tangent, point_out, some_point}

-- 8, of a point with a finite float for a finite one in a cell
cell_stays_finite : (c : Cell) (p : ContactPoint) (x : Float) → finite x ≡ true → finite_point p ≡ true → finite_point (with_cell c p x) ≡ true
unfolding finite_point finite_normal finite_tangent with_cell normal_with tangent_with
cell_stays_finite NormalImpulse p x e f = rw (e ∙ sym (cell_finite NormalImpulse p f)) f
cell_stays_finite TangentImpulse p x e f = rw (e ∙ sym (cell_finite TangentImpulse p f)) f

-- 9, of a point with another float in a cell: of the cells only the normal impulse is looked at
module _ (h : ContactHead) (p : ContactPoint) where
  cell_stays_in_range : (q : ContactPoint) → NotBelow0 q.normal_part.impulse → (c : Cell) → point_out h p ≡ false
      → point_out h (with_cell c p (in_cell c q)) ≡ false
  unfolding point_out with_cell normal_with tangent_with
  cell_stays_in_range q e NormalImpulse o = rw (e ∙ sym (in_range h p o).0) o
  cell_stays_in_range q e TangentImpulse o = o

-- over the point, by the cells that are stored
module _ (which : Cell → Bool) (p q : ContactPoint) (is_stored : q ≡ stored_at which p q) where
  pub point_stays_finite : finite_point p ≡ true → ((c : Cell) → finite (in_cell c q) ≡ true) → finite_point q ≡ true
  point_stays_finite f new =
      ap finite_point is_stored
      ∙ outlasts (λ (r : ContactPoint). finite_point r ≡ true) cells which p q f (λ c r _ was. cell_stays_finite c r (in_cell c q) (new c) was)

  pub point_stays_in_range : (h : ContactHead) → point_out h p ≡ false → NotBelow0 q.normal_part.impulse → point_out h q ≡ false
  point_stays_in_range h o new =
      ap (point_out h) is_stored
      ∙ outlasts (λ (r : ContactPoint). point_out h r ≡ false) cells which p q o (λ c r _ was. cell_stays_in_range h r q new c was)

-- where a test holds at no point below count, it holds at none
pub none_at : (test : ContactPoint → Bool) (c : Contact) → ((x : Place) → ltb (number x) c.head.count ≡ true → test (point x c) ≡ false)
    → some_point test c ≡ false
unfolding below_count
none_at test c h = by_case (ltb 0 c.head.count) (ltb 1 c.head.count) (test c.a) (test c.b) (h at_a) (h at_b)
  where
    by_case : (below_a below_b a b : Bool) → (below_a ≡ true → a ≡ false) → (below_b ≡ true → b ≡ false) → (below_a && a || below_b && b) ≡ false
    by_case true true a b f g = rw (f refl, g refl)
    by_case true false a b f g = rw (f refl)
    by_case false true a b f g = g refl
    by_case false false a b f g = refl
