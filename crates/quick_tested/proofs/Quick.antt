-- A step on a contact without a flaw, whose bodies' velocities are finite. Assumes nothing.
use mathlib.Core.List.{[], ◌∷◌}
use mathlib.Core.Path.{◌≡◌, refl}
use mathlib.Core.Bool.{Bool, true, false, ◌||◌}
use Rattle.base_refusals.specs.Refusals.{◌when◌}
use Rattle.step_kinds.specs.Table.{routine}
use Rattle.step_kinds.specs.declared.ContactSolved.{ContactSolved}
use Rattle.step_shape.specs.Shape.{kind_above, pair_of_one, wrong_bodies, wrong_count}
use Rattle.step_shape.proofs.Points.{two_points}
use Rattle.step_values.specs.Values.{not_finite, not_finite_vels, out_of_range, unwritable}
use Rattle.step_rules.specs.Step.{as_read, asked, checks, conditions, first_or, holds_of, tried}
use Rattle.quick_flaws.proofs.Stays.{passed}
use Rattle.quick_tested.specs.Tested.{QuickStep}
use Rattle.quick_tested.proofs.Tested.{one_test}

-- the conditions that are left
left_over : (p3 p5 p6 p7 p8 lost p9 u n : Bool) (s : ContactSolved) → p5 ≡ false → p6 ≡ false → p8 ≡ false → lost ≡ false → p9 ≡ false → (p7 ≡ false → u ≡ n)
    → first_or (3 when p3 ∷ 5 when p5 ∷ 6 when p6 ∷ 7 when p7 ∷ 8 when (p8 || lost) ∷ 9 when p9 ∷ 10 when u ∷ []) s
    ≡ first_or (3 when p3 ∷ 7 when p7 ∷ 10 when n ∷ []) s
unfolding first_or
left_over true p5 p6 p7 p8 lost p9 u n s e5 e6 e8 el e9 same = refl
left_over false p5 p6 true p8 lost p9 u n s e5 e6 e8 el e9 same = rw (e5, e6) refl
left_over false p5 p6 false p8 lost p9 u n s e5 e6 e8 el e9 same = rw (e5, e6, e8, el, e9, same refl) refl

pub quick_step : QuickStep
unfolding tried conditions checks asked holds_of
quick_step rows c kind v vouch fine =
    let h = c.head in
    let p = passed rows c vouch in
    let read = as_read h v in
    let s = routine kind c read in
    left_over (kind_above kind) (wrong_bodies h rows) (wrong_count h) (pair_of_one kind h) (not_finite c) (not_finite_vels read) (out_of_range c) (unwritable kind s)
    (not_finite_vels s.vels) s p.bodies p.count p.numbers fine p.range (λ e. one_test rows c kind v vouch (two_points kind h p.count e))
