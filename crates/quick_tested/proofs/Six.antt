-- The test of six numbers by one sum. Assumes nothing.
use mathlib.Core.Path.{◌≡◌, refl}
use mathlib.Core.Bool.{true, false}
use Rattle.elem_leaves.specs.Finite.{finite}
use Rattle.elem_leaves.specs.Floats.{◌+f◌}
use Rattle.elem_velocity.specs.declared.Vels.{Vels}
use Rattle.step_values.specs.Values.{finite_vel, not_finite_vels}
use Rattle.quick_tested.proofs.Implied.{of_sum}

pub six : (v : Vels)
    → (let a = v.v1.linear in
    let b = v.v2.linear in
    finite ((a.x +f b.x +f v.v1.angular) +f (a.y +f b.y +f v.v2.angular))) ≡ true → false ≡ not_finite_vels v
unfolding not_finite_vels finite_vel
six v h =
    let a = v.v1.linear in
    let b = v.v2.linear in
    let two = of_sum _ _ h in
    let x = of_sum _ v.v1.angular two.0 in
    let y = of_sum _ v.v2.angular two.1 in
    let xs = of_sum a.x b.x x.0 in
    let ys = of_sum a.y b.y y.0 in
    rw (xs.0, xs.1, ys.0, ys.1, x.1, y.1) refl
